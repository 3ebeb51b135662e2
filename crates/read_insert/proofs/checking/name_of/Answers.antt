-- The front is copied, the rest stays zeros.
use mathlib.Core.Path.{◌≡◌, sym, ap, ◌∙◌}
use mathlib.Core.List.{List, ◌++◌}
use Prim.Native.Nat.{ℕ, ◌-◌, ◌+◌}
use native.Mathlib.Omega.{arith}
use lib.ListN.{length, take, drop, replicate, length-drop}
use lib.Seq.{length-take-le}
use Rattle.std.proofs.lemmas.List.{drop-replicate}
use Rattle.definitions.specs.Limits.{max_name}
use Rattle.read_insert.proofs.checking.name_of.Goals as goal

pub returns : goal.returns
returns c =
    let x = c.args in
    let name : List ℕ = take x.n (drop x.from x.s.now) in
    let copied = c.copy_from_slice.ensures.after in
    let long : length name ≡ x.n = length-take-le x.n (drop x.from x.s.now) (let h = c.requires.1 in omega (arith, h, length-drop x.from x.s.now)) in
    let size : x.from + x.n - x.from ≡ x.n = omega arith in
    ap (λ (l : List ℕ). l ++ drop x.n (replicate max_name 0)) (copied ∙ ap (λ (k : ℕ). take k (drop x.from x.s.now)) size)
    ∙ ap (λ (l : List ℕ). name ++ l) (drop-replicate x.n max_name 0 ∙ ap (λ (k : ℕ). replicate (max_name - k) 0) (sym long))
