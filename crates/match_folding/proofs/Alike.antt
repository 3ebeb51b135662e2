-- Two bytes are alike under no_case exactly if their entries are equal (`alike_exactly`). Document 02, request T-06.
use mathlib.Core.Path.{◌≡◌, sym, ◌∙◌}
use mathlib.Core.Bool.{true}
use mathlib.Core.List.{List}
use mathlib.Core.Logic.{◌↔◌}
use Prim.Native.Nat.{ℕ, ◌<◌}
use lib.ListN.{get_or}
use lib.Dec.{eqb}
use borrow.Author.Tests.{eq-eqb, eqb-true}
use Rattle.definitions.specs.Windows.{alike}
use Rattle.match_folding.specs.Folding.{FoldTable}

module _ (t : List ℕ) (f : FoldTable t) (x y : ℕ) (h : x < 256) (g : y < 256) where
  pub alike_by_entries : eqb (get_or t x 0) (get_or t y 0) ≡ alike true x y
  unfolding alike
  alike_by_entries = rw (f.entry x h, f.entry y g)

  pub alike_exactly : (alike true x y ≡ true) ↔ (get_or t x 0 ≡ get_or t y 0)
  alike_exactly =
      (λ e. eqb-true (get_or t x 0) (get_or t y 0) (alike_by_entries ∙ e), λ e. sym alike_by_entries ∙ eq-eqb (get_or t x 0) (get_or t y 0) e)
