-- Pieces that forms are put together from.
use Rattle.std.specs.Prelude.{ℕ, ◌-◌, List, [], ◌∷◌, if◌then◌else◌}
use Rattle.forms.specs.Bytes.{between}
use Rattle.forms.specs.Form.{Form, pure, byte, pair, alt, many, fmap}

-- the first and then the second, with the value of the second; of the first
abbrev pub preceded : {A B : Type 0} → Form A → Form B → Form B
preceded {A} {B} f g = fmap (λ (p : A × B). p.1) (pair f g)

abbrev pub terminated : {A B : Type 0} → Form A → Form B → Form A
terminated {A} {B} f g = fmap (λ (p : A × B). p.0) (pair f g)

-- the one or the other
abbrev pub or : {A : Type 0} → Form A → Form A → Form A
or f g = alt f g

-- the form, or nothing and the value a
abbrev pub opt : {A : Type 0} → A → Form A → Form A
opt a f = alt f (pure a)

-- one or more
abbrev pub some : {A : Type 0} → Form A → Form (List A)
some {A} f = fmap (λ (p : A × List A). p.0 ∷ p.1) (pair f (many f))

-- a byte; a byte, and what it says
abbrev pub literal : ℕ → Form ℕ
literal b = byte ((b, b) ∷ [])

abbrev pub literal_as : {A : Type 0} → ℕ → A → Form A
literal_as b a = fmap (λ (x : ℕ). a) (literal b)

-- a byte of a word that is written in small letters, in either case
abbrev pub any_case : ℕ → Form ℕ
any_case b = byte (if between 97 122 b then (b, b) ∷ (b - 32, b - 32) ∷ [] else (b, b) ∷ [])

-- a word, and what it says; a word alone
abbrev pub keyword : {A : Type 0} → List ℕ → A → Form A
keyword [] a = pure a
keyword (b ∷ w) a = preceded (any_case b) (keyword w a)

abbrev pub word : List ℕ → Form ℕ
word w = keyword w 0
