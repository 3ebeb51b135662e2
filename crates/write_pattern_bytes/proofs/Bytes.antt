-- The bytes of a pattern, one more and the last.
use mathlib.Core.Path.{◌≡◌, refl, sym}
use mathlib.Core.Bool.{Bool, true, false, not}
use mathlib.Core.List.{List, [], ◌∷◌, ◌++◌, append_assoc}
use Prim.Native.Nat.{ℕ, suc, ◌+◌, ◌/◌, ◌%◌, ◌≤◌, ◌<◌}
use native.Mathlib.Numerals.{add-one}
use lib.ListN.{length, drop, get_or, drop_of_length-le}
use lib.Seq.{drop-cons}
use Rattle.forms.specs.Bytes.{text}
use Rattle.forms.specs.Form.{has}
use Rattle.forms.proofs.Bools.{by_cases}
use Rattle.definitions.specs.Forms.{plain_bytes}
use Rattle.definitions.specs.Canonical.{text_if, hex_digit, pattern_text}
use Rattle.write_pattern_bytes.specs.Parts.{byte_text}

-- one byte more
pattern_on : (opened : Bool) (b : ℕ) (l : List ℕ) → pattern_text opened (b ∷ l) ≡ byte_text opened (has plain_bytes b) b ++ pattern_text (not (has plain_bytes b)) l
unfolding pattern_text byte_text
pattern_on opened b l =
    by_cases (has plain_bytes b)
    (λ t. rw t (sym (append_assoc (text_if opened (text "|")) (b ∷ []) (pattern_text false l))))
    (λ f. rw f (sym (append_assoc (text_if (not opened) (text "|")) (hex_digit (b / 16) ∷ hex_digit (b % 16) ∷ []) (pattern_text true l))))

pub hex_pair_lem : (x y : ℕ) {h l : ℕ} → h ≡ hex_digit x → l ≡ hex_digit y → hex_digit x ∷ hex_digit y ∷ [] ≡ h ∷ l ∷ []
hex_pair_lem x y e d = rw (e, d)

pattern_end : (opened : Bool) → pattern_text opened [] ≡ text_if opened (text "|")
unfolding pattern_text
pattern_end opened = refl

pub bytes_on : (opened : Bool) (b : List ℕ) (i : ℕ) → i < length b
    → pattern_text opened (drop i b)
    ≡ byte_text opened (has plain_bytes (get_or b i 0)) (get_or b i 0) ++ pattern_text (not (has plain_bytes (get_or b i 0))) (drop (i + 1) b)
bytes_on opened b i h = rw (drop-cons b i 0 h, add-one i) (pattern_on opened (get_or b i 0) (drop (suc i) b))

pub bytes_end : (opened : Bool) (b : List ℕ) (i : ℕ) → length b ≤ i → pattern_text opened (drop i b) ≡ text_if opened (text "|")
bytes_end opened b i h = rw (drop_of_length-le b h) (pattern_end opened)
