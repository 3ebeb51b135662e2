-- How the scanner reads the pieces that forms are made of. Assumes nothing.
use Rattle.std.specs.Prelude.{if◌then◌else◌}
use mathlib.Core.Path.{◌≡◌, refl}
use mathlib.Core.Bool.{Bool, true, false, ◌&&◌}
use mathlib.Core.List.{List, [], ◌∷◌}
use Prim.Native.Nat.{ℕ, zero, suc, ◌≤◌}
use native.Mathlib.Omega.{arith}
use native.Mathlib.Nat.{le_refl}
use lib.ListN.{length, take, drop}
use lib.Dec.{eqb, eqb-suc-zero}
use Rattle.forms.specs.Bytes.{run}
use Rattle.forms.proofs.Bools.{by_cases, both_left, both_right}
use Rattle.forms.specs.Form.{Class, has, Form, pure, byte, pair, alt, many, fmap, bound}
use Rattle.forms.specs.Scan.{Scan, Got, Stop, on_got, first_set, begins, one, loop, scan, onward, overs, over}
use Rattle.forms.specs.Pieces.{preceded, some}
use Rattle.forms.proofs.Sound.{never}

module _ {A B : Type 0} (f : Form A) (g : Form B) (l : List ℕ) where
  pub preceded_scan : scan (preceded f g) l ≡ on_got (scan f l) (λ a r. scan g r)
  unfolding scan
  preceded_scan = go (scan f l)
    where
      go2 : (a : A) (o : Scan B) → on_got (on_got o (λ b t. Got (a, b) t)) (λ (p : A × B) r. Got p.1 r) ≡ o
      go2 a (Got b t) = refl
      go2 a (Stop t) = refl

      go : (o : Scan A) → on_got (on_got o (λ a r. on_got (scan g r) (λ b t. Got (a, b) t))) (λ (p : A × B) r. Got p.1 r) ≡ on_got o (λ a r. scan g r)
      go (Got a r) = go2 a (scan g r)
      go (Stop r) = refl

-- bytes of a class, told by a test
module _ (c : Class) (p : ℕ → Bool) (e : (b : ℕ) → has c b ≡ p b) where
  loop_bytes : (k : ℕ) (l : List ℕ) → length l ≤ k → loop c (λ m. one c m) k l ≡ Got (take (run p l) l) (drop (run p l) l)
  unfolding loop run
  loop_bytes zero [] h = refl
  loop_bytes zero (b ∷ l) h = absurd (omega (arith, h))
  loop_bytes (suc k) [] h = refl
  loop_bytes (suc k) (b ∷ l) h = by_cases (p b) (λ t. rw (e b, t, loop_bytes k l (omega (arith, h)))) (λ t. rw (e b, t))

  pub many_bytes : (l : List ℕ) → scan (many (byte c)) l ≡ Got (take (run p l) l) (drop (run p l) l)
  unfolding scan
  many_bytes l = loop_bytes (length l) l (le_refl _)

  pub some_bytes : (l : List ℕ) → scan (some (byte c)) l ≡ (if eqb (run p l) 0 then (Stop l) else (Got (take (run p l) l) (drop (run p l) l)))
  unfolding scan run
  some_bytes [] = refl
  some_bytes (b ∷ l) = by_cases (p b) (λ t. rw (e b, t, loop_bytes (length l) l (le_refl _), eqb-suc-zero (run p l))) (λ t. rw (e b, t))

-- a form without bounds breaks none
abbrev pub free : {A : Type 0} → Form A → Bool
free (pure a) = true
free (byte c) = true
free (pair f g) = ((free f) && (free g))
free (alt f g) = ((free f) && (free g))
free (many f) = free f
free (fmap h f) = free f
free (bound p j f) = false

onward_none : {A : Type 0} (o : Scan A) (k : A → List ℕ → List (List ℕ)) → ((a : A) (r : List ℕ) → k a r ≡ []) → onward o k ≡ []
onward_none (Got a r) k h = h a r
onward_none (Stop r) k h = refl

overs_unbounded : {A : Type 0} (c : Class) (s : List ℕ → Scan A) (o : List ℕ → List (List ℕ)) → ((l : List ℕ) → o l ≡ []) → (k : ℕ) (l : List ℕ)
    → overs c s o k l ≡ []
unfolding overs
overs_unbounded c s o h zero l = refl
overs_unbounded {A} c s o h (suc k) l =
    by_cases (begins c l) (λ t. rw (t, h l) (onward_none (s l) (λ a r. overs c s o k r) (λ a r. overs_unbounded c s o h k r))) (λ t. rw t)

pub over_unbounded : {A : Type 0} (f : Form A) → free f ≡ true → (l : List ℕ) → over f l ≡ []
unfolding over
over_unbounded (pure a) w l = refl
over_unbounded (byte c) w l = refl
over_unbounded (pair f g) w l =
    rw (over_unbounded f (both_left (free f) (free g) w) l)
    (onward_none (scan f l) (λ a r. over g r) (λ a r. over_unbounded g (both_right (free f) (free g) w) r))
over_unbounded (alt f g) w l =
    by_cases (begins (first_set f) l)
    (λ t. rw t (over_unbounded f (both_left (free f) (free g) w) l))
    (λ t. rw t (over_unbounded g (both_right (free f) (free g) w) l))
over_unbounded (many f) w l = overs_unbounded (first_set f) (λ m. scan f m) (λ m. over f m) (λ m. over_unbounded f w m) (length l) l
over_unbounded (fmap h f) w l = over_unbounded f w l
over_unbounded (bound p j f) w l = never (cc)
