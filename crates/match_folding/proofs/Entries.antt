-- The rule of a table at each of its entries, from a test of the whole table that is computed.
use mathlib.Core.Path.{◌≡◌, sym, ap, ◌∙◌}
use mathlib.Core.Bool.{Bool, true, ◌&&◌}
use mathlib.Core.List.{List, [], ◌∷◌}
use Prim.Native.Nat.{ℕ, zero, suc, ◌+◌, ◌<◌}
use native.Mathlib.Omega.{arith}
use native.Mathlib.Nat.{add-zero, zero-add, add-suc, suc-add}
use lib.ListN.{length, get_or}
use lib.Dec.{eqb}
use borrow.Author.Tests.{eqb-true}
use Rattle.forms.specs.Bytes.{lower}
use Rattle.forms.proofs.Bools.{both_left, both_right}
use Rattle.match_folding.specs.Folding.{FoldTable}

-- each entry of a table is its place folded, places counted from i
abbrev pub folds : ℕ → List ℕ → Bool
folds i [] = true
folds i (x ∷ t) = eqb x (lower i) && folds (suc i) t

entry_from : (t : List ℕ) (i : ℕ) → folds i t ≡ true → (k : ℕ) → k < length t → get_or t k 0 ≡ lower (i + k)
entry_from [] i e k h = absurd (omega arith)
entry_from (x ∷ t) i e zero h = rw (add-zero i) (eqb-true x (lower i) (both_left (eqb x (lower i)) (folds (suc i) t) e))
entry_from (x ∷ t) i e (suc k) h =
    rw (add-suc i k, sym (suc-add i k)) (entry_from t (suc i) (both_right (eqb x (lower i)) (folds (suc i) t) e) k (omega arith))

pub table_folds : (t : List ℕ) → length t ≡ 256 → folds 0 t ≡ true → FoldTable t
table_folds t l e = record { long = l; entry = λ k h. entry_from t 0 e k (omega arith) ∙ ap lower (zero-add k) }
