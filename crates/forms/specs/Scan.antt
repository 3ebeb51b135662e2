-- Scanning a form from the front of a byte list, one byte of look-ahead deciding; and `is_ll1`, a computed test of the forms for which
-- that is right. proofs/Places.antt shows that for fair forms the scanner reads exactly what the form means.
use Rattle.std.specs.Prelude.{ℕ, zero, suc, Bool, true, false, not, ◌&&◌, ◌||◌, List, [], ◌∷◌, ◌++◌, length, drop, ltb, leb, if◌then◌else◌}
use Rattle.forms.specs.Form.{Class, has, Form, pure, byte, pair, alt, many, fmap, bound}

-- the value and what is left after it; or what is left where the form cannot go on
pub data Scan (A : Type 0) : Type 0 where
  Got : A → List ℕ → Scan A
  Stop : List ℕ → Scan A

abbrev pub on_got : {A B : Type 0} → Scan A → (A → List ℕ → Scan B) → Scan B
on_got (Got a l) k = k a l
on_got (Stop l) k = Stop l

-- whether the empty text is of the form
abbrev pub nullable : {A : Type 0} → Form A → Bool
nullable (pure a) = true
nullable (byte c) = false
nullable (pair f g) = nullable f && nullable g
nullable (alt f g) = nullable f || nullable g
nullable (many f) = true
nullable (fmap h f) = nullable f
nullable (bound p j f) = nullable f

-- the bytes that a text of the form can begin with
abbrev pub first_set : {A : Type 0} → Form A → Class
first_set (pure a) = []
first_set (byte c) = c
first_set (pair f g) = first_set f ++ (if nullable f then first_set g else [])
first_set (alt f g) = first_set f ++ first_set g
first_set (many f) = first_set f
first_set (fmap h f) = first_set f
first_set (bound p j f) = first_set f

abbrev pub begins : Class → List ℕ → Bool
begins c [] = false
begins c (b ∷ l) = has c b

abbrev pub one : Class → List ℕ → Scan ℕ
one c [] = Stop []
one c (b ∷ l) = if has c b then Got b l else Stop (b ∷ l)

-- at most so many turns of a scanner, while what is left begins with a byte of the class
unfoldable pub loop : {A : Type 0} → Class → (List ℕ → Scan A) → ℕ → List ℕ → Scan (List A)
loop c s zero l = Got [] l
loop c s (suc k) l = if begins c l then on_got (s l) (λ a r. on_got (loop c s k r) (λ vs t. Got (a ∷ vs) t)) else Got [] l

unfoldable pub scan : {A : Type 0} → Form A → List ℕ → Scan A
scan (pure a) l = Got a l
scan (byte c) l = one c l
scan (pair f g) l = on_got (scan f l) (λ a r. on_got (scan g r) (λ b t. Got (a, b) t))
scan (alt f g) l = if begins (first_set f) l then scan f l else scan g l
scan (many f) l = loop (first_set f) (λ m. scan f m) (length l) l
scan (fmap h f) l = on_got (scan f l) (λ a r. Got (h a) r)
scan (bound p j f) l = scan f l

-- ---- broken bounds: what is left at each, from the left

abbrev pub onward : {A : Type 0} → Scan A → (A → List ℕ → List (List ℕ)) → List (List ℕ)
onward (Got a l) k = k a l
onward (Stop l) k = []

unfoldable pub overs : {A : Type 0} → Class → (List ℕ → Scan A) → (List ℕ → List (List ℕ)) → ℕ → List ℕ → List (List ℕ)
overs c s o zero l = []
overs c s o (suc k) l = if begins c l then o l ++ onward (s l) (λ a r. overs c s o k r) else []

unfoldable pub over : {A : Type 0} → Form A → List ℕ → List (List ℕ)
over (pure a) l = []
over (byte c) l = []
over (pair f g) l = over f l ++ onward (scan f l) (λ a r. over g r)
over (alt f g) l = if begins (first_set f) l then over f l else over g l
over (many f) l = overs (first_set f) (λ m. scan f m) (λ m. over f m) (length l) l
over (fmap h f) l = over f l
over (bound p j f) l = over f l ++ onward (scan f l) (λ a r. if p a then [] else drop (j a) l ∷ [])

-- ---- fair: one byte decides

-- the bytes with which a text of the form can go on to a longer one
abbrev pub follow_set : {A : Type 0} → Form A → Class
follow_set (pure a) = []
follow_set (byte c) = []
follow_set (pair f g) = follow_set g ++ (if nullable g then follow_set f else [])
follow_set (alt f g) = follow_set f ++ (follow_set g ++ (if nullable g then first_set f else []))
follow_set (many f) = follow_set f ++ first_set f
follow_set (fmap h f) = follow_set f
follow_set (bound p j f) = follow_set f

abbrev pub clear : ℕ × ℕ → Class → Bool
clear r [] = true
clear r (q ∷ d) = (ltb r.1 q.0 || ltb q.1 r.0) && clear r d

-- no byte is in both classes
abbrev pub apart : Class → Class → Bool
apart [] d = true
apart (r ∷ c) d = clear r d && apart c d

abbrev pub filled : Class → Bool
filled [] = false
filled (r ∷ c) = leb r.0 r.1

abbrev pub is_ll1 : {A : Type 0} → Form A → Bool
is_ll1 (pure a) = true
is_ll1 (byte c) = filled c
is_ll1 (pair f g) = (is_ll1 f && is_ll1 g) && apart (follow_set f) (first_set g)
is_ll1 (alt f g) = (is_ll1 f && is_ll1 g) && (not (nullable f) && apart (first_set f) (first_set g))
is_ll1 (many f) = is_ll1 f && (not (nullable f) && apart (follow_set f) (first_set f))
is_ll1 (fmap h f) = is_ll1 f
is_ll1 (bound p j f) = is_ll1 f
