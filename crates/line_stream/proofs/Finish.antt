-- THE LAST LINE, where it lacks its LF: none, or one that is answered as any other.
use mathlib.Core.Path.{◌≡◌, refl, sym, ap, ◌∙◌}
use mathlib.Core.Bool.{true, false}
use mathlib.Core.List.{List, [], ◌∷◌}
use Prim.Native.Nat.{ℕ}
use native.Mathlib.Nat.{not-suc-le-zero}
use lib.Dec.{ltb}
use lib.ListN.{length, take}
use borrow.Author.Tests.{ltb-true, ltb-false}
use Rattle.forms.specs.Bytes.{text}
use Rattle.write_bytes.specs.Puts.{Puts}
use Rattle.write_bytes.proofs.Putting.{told}
use Rattle.line_stream.specs.declared.Begun.{Begun}
use Rattle.line_stream.specs.declared.Feeding.{Feeding}
use Rattle.line_stream.specs.Stream.{line_answer, last_line}
use Rattle.line_stream.specs.Steps.{line_opening, Lasts}
use Rattle.line_stream.proofs.Room.{line_put}

module _ (answer : List ℕ → List ℕ) where
  no_line : (n : ℕ) (l : List ℕ) → ltb 0 (length l) ≡ false → last_line answer n l ≡ []
  no_line n [] f = refl
  no_line n (b ∷ l) f = absurd (not-suc-le-zero (ltb-false 0 (length (b ∷ l)) f))

  some_line : (n : ℕ) (l : List ℕ) → ltb 0 (length l) ≡ true → last_line answer n l ≡ line_answer answer n l
  some_line n [] t = absurd (not-suc-le-zero (ltb-true 0 0 t))
  some_line n (b ∷ l) t = refl

  module _ {line out o : List ℕ} {b : Begun} {t : Feeding} (k : Lasts line out o b t) where
    waiting : t.waits ≡ ltb 0 (length (take b.len line))
    waiting = ap (λ (x : Feeding). x.waits) k.is

    put_so_far : Puts out 0 (line_opening t.waits b.number) o t.at
    put_so_far = rw k.is k.opened

    pub none_waits : t.waits ≡ false → Puts out 0 (last_line answer b.number (take b.len line)) o t.at
    none_waits f = told (no_line b.number (take b.len line) (sym waiting ∙ f)) (rw f at put_so_far)

    pub one_waits : {s o' o'' : List ℕ} {j r : ℕ} → t.waits ≡ true → s ≡ take b.len line → Puts o t.at (answer s) o' j → Puts o' j (text "\n") o'' r
        → Puts out 0 (last_line answer b.number (take b.len line)) o'' r
    one_waits w e p q =
        told
        (some_line b.number (take b.len line) (sym waiting ∙ w))
        (line_put answer b.number (take b.len line) (rw w at put_so_far) (rw e at p) q)
