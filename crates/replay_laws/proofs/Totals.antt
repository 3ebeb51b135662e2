-- THE TOTALS TOGETHER ARE ALL LINES of the trace: each outcome is of one kind.
use mathlib.Core.Path.{◌≡◌, ◌∙◌}
use mathlib.Core.List.{List, [], ◌∷◌, map}
use Prim.Native.Nat.{ℕ, ◌+◌}
use native.Mathlib.Omega.{arith}
use lib.ListN.{length, length-map}
use Rattle.definitions.specs.Limits.{Limits}
use Rattle.definitions.specs.Lists.{keep, count}
use Rattle.definitions.specs.Lines.{line_texts}
use Rattle.definitions.specs.Books.{Rule}
use Rattle.replay_laws.specs.Replays.{Outcome, pass, hold, bad, is_pass, is_hold, is_bad, outcome}

kinds_all : (os : List Outcome) → count is_pass os + count is_hold os + count is_bad os ≡ length os
unfolding keep
kinds_all [] = omega arith
kinds_all (pass n ∷ os) = omega (arith, kinds_all os)
kinds_all (hold n ∷ os) = omega (arith, kinds_all os)
kinds_all (bad ∷ os) = omega (arith, kinds_all os)

pub totals_all : (lim : Limits) (rs : List Rule) (input : List ℕ)
    → count is_pass (map (outcome lim rs) (line_texts [] input)) + count is_hold (map (outcome lim rs) (line_texts [] input))
    + count is_bad (map (outcome lim rs) (line_texts [] input))
    ≡ length (line_texts [] input)
totals_all lim rs input =
    let ls = line_texts [] input in
    kinds_all (map (outcome lim rs) ls) ∙ length-map ls (outcome lim rs)
