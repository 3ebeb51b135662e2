-- `=` is no `<` and no `>`; where it does not stand, an order reads the same with it as without.
use mathlib.Core.Path.{◌≡◌, refl, sym, ◌∙◌}
use mathlib.Core.Bool.{Bool, true, false}
use mathlib.Core.List.{List, [], ◌∷◌}
use Prim.Native.Nat.{ℕ}
use lib.ListN.{drop}
use borrow.Author.Tests.{eqb-true}
use Rattle.forms.specs.Form.{Form, has}
use Rattle.forms.specs.Scan.{first_set, begins}
use Rattle.forms.specs.Pieces.{or, opt}
use Rattle.forms.proofs.Bools.{by_cases}
use Rattle.scan_pieces.proofs.AtPlace.{has_one}
use Rattle.scan_cursors.specs.declared.Cursor.{Cursor}
use Rattle.scan_cursors.specs.declared.Cursor.TheVariants as cursor
use Rattle.scan_cursors.specs.Reads.{Inside, next_in, Reads}
use Rattle.scan_cursors.proofs.Choices.{first_reads, second_reads, first_told, second_told, row_reads}
use Rattle.read_operators.proofs.then_size_order.Goals as goal

apart : (l : List ℕ) → begins ((61, 61) ∷ []) l ≡ true → begins ((60, 60) ∷ (62, 62) ∷ []) l ≡ false
unfolding has
apart [] e = refl
apart (b ∷ l) e = let z : b ≡ 61 = eqb-true b 61 (sym (has_one 61 b) ∙ e) in rw z refl

apart_in : (s : List ℕ) (c : Cursor) {t : Bool} → t ≡ next_in ((61, 61) ∷ []) s c → t ≡ true → false ≡ next_in ((60, 60) ∷ (62, 62) ∷ []) s c
apart_in s (cursor.Parsed n) e y = sym (apart (drop n s) (sym e ∙ y))
apart_in s (cursor.OutOfRange p n) e y = sym (apart (drop n s) (sym e ∙ y))
apart_in s (cursor.Failed p) e y = refl

-- an option that does not begin reads the same with a further choice
without : {A : Type 0} (f g : Form A) {a : A} {s : List ℕ} {c d : Cursor} {v : A} {t : Bool} → Inside s c → t ≡ next_in (first_set g) s c → t ≡ false
    → Reads (opt a f) s c v d → Reads (opt a (or f g)) s c v d
without f g {s = s} {c = c} i e n r =
    row_reads i
    (by_cases (next_in (first_set f) s c)
    (λ t. first_reads refl t (first_told refl t r))
    (λ t. second_reads refl t (second_reads e n (second_told refl t r))))

pub returns-then-next_is : goal.returns-then-next_is
returns-then-next_is c =
    let i = c.requires in
    row_reads i (second_reads (apart_in c.args.s.now c.args.c c.next_is.ensures c.if-next_is.true) refl
    (first_reads c.next_is.ensures c.if-next_is.true c.then_literal_as.ensures))

pub returns : goal.returns
returns c = without _ _ c.requires c.next_is.ensures c.if-next_is.false c.then_order.ensures
