-- A place and a start, compared as starts are.
use mathlib.Core.Path.{◌≡◌}
use mathlib.Core.Bool.{true, false}
use Prim.Native.Nat.{ℕ, ◌≤◌, ◌<◌}
use borrow.Author.Tests.{ltb-true, ltb-false}
use Rattle.definitions.specs.declared.packets.Start.{Start}
use Rattle.definitions.specs.Starts.{start_at, start_before}

pub before_number : (x : ℕ) (a : Start) → start_before (start_at x) a ≡ true → x < a.at
unfolding start_before
before_number x a h = ltb-true x a.at h

pub not_before_number : (x : ℕ) (a : Start) → start_before (start_at x) a ≡ false → a.at ≤ x
unfolding start_before
not_before_number x a h = ltb-false x a.at h
