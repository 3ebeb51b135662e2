-- A refusal with its place has at most 41 bytes.
use Prim.Native.Nat.{ℕ, ◌≤◌, ◌<◌, ◌^◌}
use mathlib.Core.List.{◌∷◌}
use native.Mathlib.Omega.{arith}
use lib.ListN.{length, length-append}
use Rattle.definitions.specs.declared.answers.Refusal.{Refusal}
use Rattle.definitions.specs.declared.answers.Refusal.TheVariants as refusal
use Rattle.definitions.specs.Refusals.{number_of}
use Rattle.definitions.specs.Canonical.{decimal}
use Rattle.definitions.specs.Lines.{refused_line}
use Rattle.laws.proofs.Digits.{decimal_most}

number_small : (r : Refusal) → number_of r ≤ 53
number_small refusal.TextLength = omega arith
number_small refusal.TextByte = omega arith
number_small refusal.Opening = omega arith
number_small refusal.NeitherOptionNorEnd = omega arith
number_small refusal.NotListed = omega arith
number_small refusal.Form = omega arith
number_small refusal.Limit = omega arith
number_small refusal.Repeated = omega arith
number_small refusal.ModifierWithoutPattern = omega arith
number_small refusal.Unusable = omega arith
number_small refusal.CountExceeded = omega arith
number_small refusal.Missing = omega arith
number_small refusal.IllFormed = omega arith
number_small refusal.CanonicalLength = omega arith
number_small refusal.ShortBuffer = omega arith
number_small refusal.BufferLength = omega arith
number_small refusal.NotIpv4 = omega arith
number_small refusal.Lengths = omega arith
number_small refusal.Fragment = omega arith
number_small refusal.Transport = omega arith
number_small refusal.FieldSpan = omega arith
number_small refusal.EarlierCount = omega arith
number_small refusal.BookLength = omega arith
number_small refusal.RuleForm = omega arith
number_small refusal.RuleOrder = omega arith
number_small refusal.RuleCount = omega arith

pub refused_most : (r : Refusal) (p : ℕ) → p < 2 ^ 64 → length (refused_line r p) ≤ 41
refused_most r p h =
    omega
    (arith, length-append (decimal (number_of r)) (9 ∷ decimal p), decimal_most (number_of r) (omega (arith, number_small r)), decimal_most p h)
