-- Lists of addresses, as a loop puts them.
use mathlib.Core.Path.{◌≡◌, refl, sym, ap, ◌∙◌}
use mathlib.Core.Bool.{Bool}
use mathlib.Core.List.{List, [], ◌∷◌, ◌++◌, append-nil}
use Prim.Native.Nat.{ℕ, suc, ◌+◌, ◌≤◌, ◌<◌}
use native.Mathlib.Omega.{arith}
use native.Mathlib.Numerals.{add-one}
use lib.ListN.{length, take, drop, get_or, length-take, drop_of_length-le}
use lib.Seq.{length-take-le, drop-cons}
use lib.Dec.{ltb}
use borrow.Author.Tests.{lt-ltb, le-ltb}
use Rattle.forms.specs.Bytes.{text}
use Rattle.definitions.specs.declared.table.Address.{Address}
use Rattle.definitions.specs.Canonical.{text_if, address_text, addresses_text, bracketed}

-- addresses from the one at place i of a list on: a comma before each but the first
unfoldable pub list_from : ℕ → List Address → List ℕ
list_from i [] = []
list_from i (a ∷ l) = text_if (ltb 0 i) (text ",") ++ (address_text a ++ list_from (suc i) l)

list_later : (i : ℕ) (a : Address) (l : List Address) → text_if (ltb 0 (suc i)) (text ",") ++ addresses_text (a ∷ l) ≡ list_from (suc i) (a ∷ l)
unfolding addresses_text list_from
list_later i a [] = rw (lt-ltb 0 (suc i) (omega arith)) (ap (λ (x : List ℕ). text "," ++ x) (sym (append-nil (address_text a))))
list_later i a (b ∷ l) =
    rw (lt-ltb 0 (suc i) (omega arith))
    (ap (λ (x : List ℕ). text "," ++ (address_text a ++ x))
    (ap (λ (t : Bool). text_if t (text ",") ++ addresses_text (b ∷ l)) (sym (lt-ltb 0 (suc (suc i)) (omega arith))) ∙ list_later (suc i) b l))

pub list_is : (l : List Address) → addresses_text l ≡ list_from 0 l
unfolding addresses_text list_from
list_is [] = refl
list_is (a ∷ []) = sym (append-nil (address_text a))
list_is (a ∷ (b ∷ l)) =
    ap (λ (x : List ℕ). address_text a ++ x)
    (ap (λ (t : Bool). text_if t (text ",") ++ addresses_text (b ∷ l)) (sym (lt-ltb 0 1 (omega arith))) ∙ list_later 0 b l)

-- one address more
pub list_on : (l : List Address) (i : ℕ) (d : Address) → i < length l
    → list_from i (drop i l) ≡ text_if (ltb 0 i) (text ",") ++ (address_text (get_or l i d) ++ list_from (i + 1) (drop (i + 1) l))
unfolding list_from
list_on l i d h = rw (drop-cons l i d h, add-one i)

pub list_end : (l : List Address) (i : ℕ) → length l ≤ i → list_from i (drop i l) ≡ []
unfolding list_from
list_end l i h = rw (drop_of_length-le l h)

pub brackets : (l : List Address) (n : ℕ) → n ≤ length l → 1 < n → bracketed (take n l) ≡ text "[" ++ (addresses_text (take n l) ++ text "]")
brackets l n long h = rw (lt-ltb 1 (length (take n l)) (omega (arith, h, length-take-le n l long)))

pub no_brackets : (l : List Address) (n : ℕ) → n ≤ 1 → bracketed (take n l) ≡ addresses_text (take n l)
no_brackets l n h = rw (le-ltb 1 (length (take n l)) (omega (arith, h, length-take n l)))
