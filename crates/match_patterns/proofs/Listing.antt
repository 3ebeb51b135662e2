-- The starts of a list that pass a test, start by start; and where a pattern lies, by the span of its window.
use Rattle.std.specs.Prelude.{Option}
use mathlib.Core.Path.{◌≡◌, refl, ap, ◌∙◌}
use mathlib.Core.Bool.{Bool, true, false, and-false}
use mathlib.Core.List.{List, [], ◌∷◌}
use Prim.Native.Nat.{ℕ, zero, suc, ◌+◌, ◌-◌, ◌≤◌, ◌<◌}
use native.Mathlib.Omega.{arith}
use native.Mathlib.Numerals.{add-one}
use native.Mathlib.Nat.{suc-add, zero-add}
use lib.ListN.{length, drop}
use lib.Dec.{ltb, leb}
use borrow.Author.Tests.{ltb-true, ltb-false, lt-ltb, le-ltb, le-leb, lt-leb}
use Rattle.forms.proofs.Bools.{by_cases}
use Rattle.definitions.specs.declared.table.Pattern.{Pattern}
use Rattle.definitions.specs.Lists.{keep, keep_one, none?}
use Rattle.definitions.specs.Windows.{stands_at, lies}
use Rattle.definitions.specs.Placements.{up_from}
use Rattle.match_windows.specs.declared.Window.{Window}
use Rattle.definitions.specs.declared.packets.Match.{Match}
use Rattle.match_windows.specs.Spans.{Spans, places_of}
use Rattle.match_patterns.specs.Starts.{standing}

-- the starts from one on, up to but not including m
abbrev pub from : ℕ → ℕ → List ℕ
from at m = up_from at (m - at)

from_more : (at m : ℕ) → at < m → from at m ≡ at ∷ from (at + 1) m
unfolding up_from
from_more at m h = let e : m - at ≡ suc (m - (at + 1)) = omega arith in rw (e, add-one at)

from_none : (at m : ℕ) → m ≤ at → from at m ≡ []
unfolding up_from
from_none at m h = let e : m - at ≡ 0 = omega arith in rw e

module _ (f : ℕ → Bool) (m : ℕ) where
  pub passed : (at : ℕ) → f at ≡ false → keep f (from at m) ≡ keep f (from (at + 1) m)
  unfolding keep
  passed at e =
      by_cases (ltb at m)
      (λ t. rw (from_more at m (ltb-true at m t), e))
      (λ t. let h = ltb-false at m t in rw (from_none at m h, from_none (at + 1) m (omega arith)))

  pub met : (at : ℕ) → at < m → f at ≡ true → none? (keep f (from at m)) ≡ false
  unfolding keep
  met at h e = rw (from_more at m h, e)

  pub ended : (at : ℕ) → m ≤ at → none? (keep f (from at m)) ≡ true
  unfolding keep
  ended at h = rw (from_none at m h)

  none_before : (a : ℕ) → ((x : ℕ) → x < a → f x ≡ false) → keep f (up_from 0 m) ≡ keep f (from a m)
  none_before zero h = ap (λ (k : ℕ). keep f (up_from 0 k)) (omega arith)
  none_before (suc a) h = none_before a (λ x l. h x (omega arith)) ∙ passed a (h a (omega arith)) ∙ rw add-one

none_after : (f : ℕ → Bool) (at k : ℕ) → ((x : ℕ) → at ≤ x → f x ≡ false) → keep f (up_from at k) ≡ []
unfolding keep up_from
none_after f at zero h = refl
none_after f at (suc k) h = rw (h at (omega arith)) (none_after f (suc at) k (λ x l. h x (omega arith)))

-- two tests that agree on k starts, of which the first holds nowhere after them
agree : (f g : ℕ → Bool) (a k more : ℕ) → ((x : ℕ) → a ≤ x → x < a + k → f x ≡ g x) → ((x : ℕ) → a + k ≤ x → f x ≡ false)
    → keep f (up_from a (k + more)) ≡ keep g (up_from a k)
unfolding keep up_from
agree f g a zero more h n = rw zero-add (none_after f a more (λ x l. n x (omega arith)))
agree f g a (suc k) more h n =
    rw (suc-add k more, h a (omega arith) (omega arith))
    (ap (keep_one (g a) a) (agree f g (suc a) k more (λ x l r. h x (omega arith) (omega arith)) (λ x l. n x (omega arith))))

module _ (p : Pattern) (b : List ℕ) (l : Option Match) (f : List ℕ) (w : Window) (s : Spans p l (length f) w) (at : ℕ) where
  lies_in_lem : w.from ≤ at → at < w.to → lies p b l f at ≡ stands_at p.nocase b (drop at f)
  unfolding lies
  lies_in_lem h k = rw (s.exact at, le-leb w.from at h, lt-ltb at w.to k)

  lies_before : at < w.from → lies p b l f at ≡ false
  unfolding lies
  lies_before h = rw (s.exact at, lt-leb w.from at h)

  lies_after : w.to ≤ at → lies p b l f at ≡ false
  unfolding lies
  lies_after h = rw (s.exact at, le-ltb at w.to h, and-false (leb w.from at))

-- the starts at which a pattern lies are those of its window at which its bytes stand
module _ (p : Pattern) (b : List ℕ) (l : Option Match) (f : List ℕ) (w : Window) (s : Spans p l (length f) w) where
  few : w.to ≤ suc (length f)
  few =
      by_cases (ltb 0 w.to)
      (λ t. let h = ltb-true 0 w.to t in omega (arith, s.inside (w.to - 1) (omega arith)))
      (λ t. let h = ltb-false 0 w.to t in omega arith)

  pub places_window : places_of p b l f ≡ keep (standing p.nocase b f) (from w.from w.to)
  places_window =
      let m = suc (length f) in
      let e : m - w.from ≡ (w.to - w.from) + ((m - w.from) - (w.to - w.from)) = omega (arith, few) in
      none_before (lies p b l f) m w.from (λ x h. lies_before p b l f w s x h)
      ∙ ap (λ (k : ℕ). keep (lies p b l f) (up_from w.from k)) e
      ∙ agree (lies p b l f) (standing p.nocase b f) w.from (w.to - w.from) ((m - w.from) - (w.to - w.from))
      (λ x h k. lies_in_lem p b l f w s x h (omega arith))
      (λ x h. lies_after p b l f w s x (omega arith))
