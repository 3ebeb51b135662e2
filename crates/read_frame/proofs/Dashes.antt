-- The byte at a place and those after it; where `--` stands there are two.
use mathlib.Core.Path.{◌≡◌}
use mathlib.Core.Bool.{true}
use mathlib.Core.List.{List, ◌∷◌}
use Prim.Native.Nat.{ℕ, ◌+◌, ◌≤◌, ◌<◌}
use native.Mathlib.Omega.{arith}
use native.Mathlib.Numerals.{add-one}
use lib.ListN.{length, get_or, take, drop, length-take, length-drop}
use lib.Seq.{drop-cons}
use Rattle.forms.specs.Bytes.{text}
use Rattle.definitions.specs.Reading.{dashes}
use Rattle.read_frame.proofs.Fronts.{same_length}

module _ (s : List ℕ) (at : ℕ) (h : at < length s) where
  pub head : drop at s ≡ get_or s at 0 ∷ drop (at + 1) s
  head = rw add-one (drop-cons s at 0 h)

  pub dashes_two : dashes (drop at s) ≡ true → at + 2 ≤ length s
  dashes_two e = let l = same_length (take 2 (drop at s)) (text "--") e in omega (arith, l, length-take 2 (drop at s), length-drop at s)
