-- Lists: tests over their elements, and an array with room after what it holds.
use Rattle.std.specs.Prelude.{ℕ, ◌-◌, Bool, true, false, ◌&&◌, ◌||◌, List, [], ◌∷◌, ◌++◌, length, replicate, eqb, if◌then◌else◌}

unfoldable pub all? : {A : Type 0} → (A → Bool) → List A → Bool
all? f [] = true
all? f (x ∷ xs) = f x && all? f xs

unfoldable pub any? : {A : Type 0} → (A → Bool) → List A → Bool
any? f [] = false
any? f (x ∷ xs) = f x || any? f xs

abbrev pub none? : {A : Type 0} → List A → Bool
none? [] = true
none? (x ∷ xs) = false

abbrev pub keep_one : {A : Type 0} → Bool → A → List A → List A
keep_one b y ys = if b then y ∷ ys else ys

-- those elements that pass a test
unfoldable pub keep : {A : Type 0} → (A → Bool) → List A → List A
keep f [] = []
keep f (x ∷ xs) = keep_one (f x) x (keep f xs)

-- how many pass a test
abbrev pub count : {A : Type 0} → (A → Bool) → List A → ℕ
count f l = length (keep f l)

-- an array of n elements that holds the list, its other elements x
abbrev pub padded : {A : Type 0} → ℕ → A → List A → List A
padded n x l = l ++ replicate (n - length l) x

-- whether two lists of bytes are the same
unfoldable pub same_bytes : List ℕ → List ℕ → Bool
same_bytes [] [] = true
same_bytes [] (y ∷ ys) = false
same_bytes (x ∷ xs) [] = false
same_bytes (x ∷ xs) (y ∷ ys) = eqb x y && same_bytes xs ys
