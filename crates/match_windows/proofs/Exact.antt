-- The starts of a window are those of a span.
use Rattle.std.specs.Prelude.{if◌then◌else◌, Option, Some, None}
use mathlib.Core.Path.{◌≡◌, refl, sym}
use mathlib.Core.Bool.{Bool, true, false, ◌&&◌, and-false}
use Prim.Native.Nat.{ℕ, ◌+◌, ◌-◌, ◌≤◌, ◌<◌, min}
use native.Mathlib.Omega.{arith}
use lib.Dec.{ltb, leb, leb-zero}
use lib.IntN.{ℤ, pos, negsuc, ◌+ℤ◌}
use lib.Signed.{le_z}
use borrow.Author.Tests.{ltb-true, leb-true, leb-false, lt-ltb, le-ltb, le-leb, lt-leb}
use Rattle.forms.proofs.Bools.{by_cases, both_left, both_right}
use Rattle.definitions.specs.declared.table.Pattern.{Pattern}
use Rattle.definitions.specs.declared.table.WithinValue.{WithinValue}
use Rattle.definitions.specs.Windows.{window_start, before_end, in_window}
use Rattle.match_windows.specs.declared.Window.{Window}
use Rattle.definitions.specs.declared.packets.Match.{Match}
use Rattle.match_windows.specs.Spans.{Spans}
use Rattle.match_windows.specs.Ends.{clip, ends_to}

same_test : (a b : Bool) → (a ≡ true → b ≡ true) → (b ≡ true → a ≡ true) → a ≡ b
same_test true b f g = sym (f refl)
same_test false true f g = g refl
same_test false false f g = refl

-- n bytes from a start on end by an end within the length
span : (s n len end at : ℕ) → end ≤ len → (leb s at && leb (at + n) end) ≡ (leb (min s (len + 1)) at && ltb at (end + 1 - n))
span s n len end at h =
    same_test (leb s at && leb (at + n) end) (leb (min s (len + 1)) at && ltb at (end + 1 - n))
    (λ e.
    let x = leb-true s at (both_left (leb s at) (leb (at + n) end) e) in
    let y = leb-true (at + n) end (both_right (leb s at) (leb (at + n) end) e) in
    rw (le-leb (min s (len + 1)) at (omega arith), lt-ltb at (end + 1 - n) (omega arith)))
    (λ e.
    let x = leb-true (min s (len + 1)) at (both_left (leb (min s (len + 1)) at) (ltb at (end + 1 - n)) e) in
    let y = ltb-true at (end + 1 - n) (both_right (leb (min s (len + 1)) at) (ltb at (end + 1 - n)) e) in
    rw (le-leb s at (omega arith), le-leb (at + n) end (omega arith)))

-- at most two numbers is at most the smaller
smaller : (m a b : ℕ) → (leb m a && leb m b) ≡ leb m (min b a)
smaller m a b =
    same_test (leb m a && leb m b) (leb m (min b a))
    (λ e.
    let x = leb-true m a (both_left (leb m a) (leb m b) e) in
    let y = leb-true m b (both_right (leb m a) (leb m b) e) in
    le-leb m (min b a) (omega arith))
    (λ e. let x = leb-true m (min b a) e in rw (le-leb m a (omega arith), le-leb m b (omega arith)))

limited : (s : ℕ) (e : ℤ) (len n at : ℕ)
    → (leb s at && (leb (at + n) len && le_z (pos (at + n)) e))
    ≡ (leb (min s (len + 1)) at && ltb at (if le_z (pos n) e then min (clip e) len + 1 - n else 0))
limited s (negsuc k) len n at = rw (and-false (leb (at + n) len), and-false (leb s at), le-ltb at 0 (omega arith), and-false (leb (min s (len + 1)) at))
limited s (pos k) len n at =
    by_cases (leb n k)
    (λ t. rw (t, smaller (at + n) len k) (span s n len (min k len) at (omega arith)))
    (λ t.
    let h = leb-false n k t in
    rw (
      t,
      lt-leb (at + n) k (omega arith),
      and-false (leb (at + n) len),
      and-false (leb s at),
      le-ltb at 0 (omega arith),
      and-false
          (leb (min s (len + 1)) at),
    ))

pub le_clip : (z : ℤ) (at : ℕ) → le_z z (pos at) ≡ leb (clip z) at
le_clip (pos n) at = refl
le_clip (negsuc n) at = sym (leb-zero at)

exactly : (s : ℤ) (w : Option WithinValue) (len n at : ℕ)
    → (le_z s (pos at) && before_end s w len (at + n)) ≡ (leb (min (clip s) (len + 1)) at && ltb at (ends_to s w len n))
unfolding ends_to
exactly s None len n at = rw (le_clip s at) (span (clip s) n len len at (omega arith))
exactly s (Some w) len n at = rw (le_clip s at) (limited (clip s) (s +ℤ pos w.number) len n at)

-- before the span's end the bytes lie inside the field
inner : (s : ℤ) (w : Option WithinValue) (len n at : ℕ) → at < ends_to s w len n → at + n ≤ len
unfolding ends_to
inner s None len n at h = omega arith
inner s (Some w) len n at h =
    by_cases (le_z (pos n) (s +ℤ pos w.number))
    (λ t. let k : at < min (clip (s +ℤ pos w.number)) len + 1 - n = rw t at h in omega arith)
    (λ t. let k : at < 0 = rw t at h in omega arith)

pub spans : (p : Pattern) (l : Option Match) (len : ℕ) (s : ℤ) (w : Window)
    → s ≡ window_start l len p.distance p.within
    → w.from ≡ min (clip s) (len + 1)
    → w.to ≡ ends_to s p.within len p.len
    → Spans p l len w
unfolding in_window
spans p l len s w e f t =
    record {
      exact = λ at. rw (← e, f, t) (exactly s p.within len p.len at);
      inside = λ at h. inner s p.within len p.len at (rw t at h);
    }
