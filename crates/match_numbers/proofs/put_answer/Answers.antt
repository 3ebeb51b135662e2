-- Three stores, and the starts after them.
use mathlib.Core.Path.{◌≡◌, ap, ◌∙◌}
use native.Mathlib.Omega.{arith}
use mathlib.Core.List.{List, ◌∷◌, ◌++◌, map}
use Prim.Native.Nat.{ℕ, ◌+◌}
use lib.ListN.{length, take, drop, length-map}
use Rattle.definitions.specs.Limits.{max_patterns}
use Rattle.definitions.specs.Starts.{start_number}
use Rattle.definitions.specs.Refusals.{found_number}
use Rattle.match_numbers.specs.Numbers.{numbers_of_one}
use Rattle.match_numbers.proofs.Storing.{three_and_more}
use Rattle.match_numbers.proofs.put_answer.Goals as goal

pub returns : goal.returns
returns c =
    let one = c.found_one in
    let number = c.found_number in
    let x = c.args in
    let h = x.a.placement in
    let starts = map start_number h.starts in
    let long : length h.starts ≡ max_patterns = omega arith in
    let n : 3 + length starts ≡ numbers_of_one = omega (arith, length-map h.starts start_number, long) in
    let written : ℕ → ℕ → List ℕ = λ u v. take x.at x.out.now ++ (u ∷ v ∷ h.count ∷ starts) ++ drop (x.at + numbers_of_one) x.out.now in
    c.put_starts.ensures
    ∙ three_and_more x.out.now x.at number.result one.result h.count numbers_of_one starts n c.requires
    ∙ ap (λ (u : ℕ). written u one.result) number.ensures
    ∙ ap (λ (u : ℕ). written (found_number x.a.found) u) one.ensures
