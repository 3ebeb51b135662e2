-- The starts of a pattern: those at which it lies and no others (`starts_in_lem`, `starts_of_lem`), in rising order (`starts_rise`). It lies within its field, whose
-- starts are numbers made starts.
use Rattle.std.specs.Prelude.{Option, Some, None}
use mathlib.Core.Path.{◌≡◌, refl, ap}
use mathlib.Core.Logic.{⊎_elim}
use mathlib.Core.Bool.{Bool, true, false}
use mathlib.Core.List.Memᴰ.{head as here}
use mathlib.Core.List.Memᴰ.{not-nil}
use mathlib.Core.List.Memᴰ.{tail as there}
use mathlib.Core.List.{List, ◌∷◌, map, Memᴰ as Mem}
use mathlib.Core.List.Memᴰ.{cases_cons}
use Prim.Native.Nat.{ℕ, zero, suc, ◌+◌, ◌≤◌, ◌<◌}
use native.Mathlib.Omega.{arith}
use lib.ListN.{length, drop}
use lib.Dec.{leb, eqb}
use lib.IntN.{ℤ, pos, ◌+ℤ◌}
use lib.Signed.{le_z}
use borrow.Author.Tests.{leb-true, eqb-true, eqb-false}
use Rattle.forms.proofs.Bools.{both_left, both_right}
use Rattle.definitions.specs.declared.table.Pattern.{Pattern}
use Rattle.definitions.specs.declared.packets.Start.{Start}
use Rattle.definitions.specs.declared.packets.Match.{Match}
use Rattle.definitions.specs.declared.table.WithinValue.{WithinValue}
use Rattle.definitions.specs.Starts.{start_at, start_before}
use Rattle.definitions.specs.Fields.{View}
use Rattle.definitions.specs.Windows.{window_start, before_end, in_window, stands_at, lies}
use Rattle.definitions.specs.Placements.{up_from, starts_to, lies_in, starts}
use Rattle.laws.proofs.StartOrder.{number_before}
use Rattle.laws.proofs.Keep.{keep_in, keep_of}
use Rattle.laws.proofs.Rising.{Rises, keep_rises}

-- ---- the starts of a field

numbers_in : (a m : ℕ) (s : Start) → Mem s (map start_at (up_from a m)) → a ≤ s.at
unfolding up_from
numbers_in a zero s n = absurd (not-nil n)
numbers_in a (suc m) s n =
    ⊎_elim (λ e. let f : s.at ≡ a = ap (λ (x : Start). x.at) e in omega arith) (λ k. let q = numbers_in (suc a) m s k in omega arith) (cases_cons n)

numbers_of_lem : (a m : ℕ) (s : Start) → a ≤ s.at → s.at < a + m → Mem s (map start_at (up_from a m))
unfolding up_from
numbers_of_lem a zero s l h = absurd (let z : ⊥ = omega arith in z)
numbers_of_lem a (suc m) s l h = go (eqb s.at a) refl (λ k. numbers_of_lem (suc a) m s k (omega arith))
  where
    go : (t : Bool) → eqb s.at a ≡ t → (suc a ≤ s.at → Mem s (map start_at (up_from (suc a) m))) → Mem s (start_at a ∷ map start_at (up_from (suc a) m))
    go true e ih = here (ap start_at (eqb-true s.at a e))
    go false e ih = there (ih (let n : (s.at ≡ a → ⊥) = eqb-false s.at a e in omega arith))

numbers_rise : (a m : ℕ) → Rises start_before (map start_at (up_from a m))
unfolding up_from
numbers_rise a zero = tt
numbers_rise a (suc m) = ((λ s n. number_before a s (numbers_in (suc a) m s n)), numbers_rise (suc a) m)

-- ---- a pattern ends within its field

before_le : (s : ℤ) (w : Option WithinValue) (len e : ℕ) → before_end s w len e ≡ true → e ≤ len
before_le s None len e h = leb-true e len h
before_le s (Some w) len e h = leb-true e len (both_left (leb e len) (le_z (pos e) (s +ℤ pos w.number)) h)

lies_within : (p : Pattern) (b : List ℕ) (l : Option Match) (f : List ℕ) (x : ℕ) → lies p b l f x ≡ true → x + p.len ≤ length f
unfolding lies in_window
lies_within p b l f x e =
    let s = window_start l (length f) p.distance p.within in
    let w = both_right (le_z s (pos x)) (before_end s p.within (length f) (x + p.len)) (both_left _ (stands_at p.nocase b (drop x f)) e) in
    before_le s p.within (length f) (x + p.len) w

-- ---- the starts of a pattern

module _ (v : View) (p : Pattern) (b : List ℕ) (l : Option Match) where
  pub lies_inside : (s : Start) → lies_in v p b l s ≡ true → s.at + p.len ≤ length (v.field p.context)
  unfolding lies_in
  lies_inside s e = lies_within p b l (v.field p.context) s.at (both_right (v.present p.context) (lies p b l (v.field p.context) s.at) e)

  pub starts_in_lem : (s : Start) → Mem s (starts v p b l) → lies_in v p b l s ≡ true
  unfolding starts
  starts_in_lem s n = (keep_in (lies_in v p b l) s (starts_to (length (v.field p.context))) n).1

  pub starts_of_lem : (s : Start) → lies_in v p b l s ≡ true → Mem s (starts v p b l)
  unfolding starts
  starts_of_lem s e =
      let h = lies_inside s e in
      let n = length (v.field p.context) in
      keep_of (lies_in v p b l) s (starts_to n) (numbers_of_lem 0 (suc n) s (omega arith) (omega arith)) e

  pub starts_rise : Rises start_before (starts v p b l)
  unfolding starts
  starts_rise = keep_rises start_before (lies_in v p b l) (starts_to (length (v.field p.context))) (numbers_rise 0 (suc (length (v.field p.context))))
