-- A form read at a place of a text. Places count from 0.
use Rattle.std.specs.Prelude.{ℕ, ◌-◌, Bool, List, [], ◌∷◌, length, drop, if◌then◌else◌}
use Rattle.forms.specs.Form.{Form}
use Rattle.forms.specs.Scan.{Scan, Got, Stop, scan, over}

-- the value and the place after it; the place of the first broken bound, and the place after all; the first place at which the form
-- cannot go on, bounds ignored
pub data Read (A : Type 0) : Type 0 where
  Parsed : A → ℕ → Read A
  OutOfRange : ℕ → ℕ → Read A
  Failed : ℕ → Read A

abbrev pub within : {A : Type 0} → List ℕ → List (List ℕ) → A → List ℕ → Read A
within s [] v r = Parsed v (length s - length r)
within s (x ∷ xs) v r = OutOfRange (length s - length x) (length s - length r)

abbrev pub placed : {A : Type 0} → List ℕ → List (List ℕ) → Scan A → Read A
placed s o (Got v r) = within s o v r
placed s o (Stop r) = Failed (length s - length r)

unfoldable pub read_at : {A : Type 0} → Form A → List ℕ → ℕ → Read A
read_at f s at = placed s (over f (drop at s)) (scan f (drop at s))

-- ---- how readings go together

abbrev pub map_read : {A B : Type 0} → (A → B) → Read A → Read B
map_read h (Parsed a n) = Parsed (h a) n
map_read h (OutOfRange p n) = OutOfRange p n
map_read h (Failed p) = Failed p

abbrev pub out_of_range_at : {A B : Type 0} → ℕ → Read A → Read B
out_of_range_at p (Parsed a n) = OutOfRange p n
out_of_range_at p (OutOfRange q n) = OutOfRange p n
out_of_range_at p (Failed q) = Failed q

-- the one, and from the end of it the other
abbrev pub both_read : {A B C : Type 0} → (A → B → C) → Read A → (ℕ → Read B) → Read C
both_read h (Parsed a n) k = map_read (h a) (k n)
both_read h (OutOfRange p n) k = out_of_range_at p (k n)
both_read h (Failed p) k = Failed p

abbrev pub bounded : {A : Type 0} → (A → Bool) → (A → ℕ) → Read A → Read A
bounded t i (Parsed a n) = if t a then Parsed a n else OutOfRange (i a) n
bounded t i (OutOfRange p n) = OutOfRange p n
bounded t i (Failed p) = Failed p
