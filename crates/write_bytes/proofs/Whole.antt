-- What was put from the start of a buffer on: how many bytes are counted, and what the buffer holds.
use mathlib.Core.Path.{◌≡◌, refl, sym, ap, subst, ◌∙◌}
use mathlib.Core.List.{List, [], ◌∷◌, ◌++◌, append_assoc}
use Prim.Native.Nat.{ℕ, suc, ◌+◌, ◌≤◌, ◌<◌}
use native.Mathlib.Omega.{arith}
use native.Mathlib.Nat.{le_refl, le_trans, le_of_lt}
use lib.Dec.{leb, ltb}
use lib.ListN.{length, set, take, drop, length-append}
use lib.Seq.{sets, sets-eq, take-set-le, take_at, length-take-le, drop-drop}
use borrow.Rule.Slice.PartMut.{put_mid}
use borrow.Author.Tests.{le-leb, leb-true, leb-false, le-ltb, ltb-true, ltb-false}
use Rattle.forms.proofs.Bools.{by_cases}
use Rattle.write_bytes.specs.Puts.{max_counted, counted, puts, Puts}
use Rattle.write_bytes.specs.Clipped.{at_most}
use Rattle.write_bytes.proofs.Putting.{counted_one}

pub most_of : (n most : ℕ) → n ≤ most → at_most n most ≡ n
unfolding at_most
most_of n most h = rw (le-leb n most h)

pub most_full : (n most : ℕ) → most ≤ n → at_most n most ≡ most
unfolding at_most
most_full n most h = by_cases (leb n most) (λ t. rw t (omega (arith, h, leb-true n most t))) (λ f. rw f)

counted_full : (at : ℕ) → max_counted ≤ at → counted at ≡ at
unfolding counted
counted_full at h = rw (le-ltb at max_counted h)

-- how many are counted
pub puts_count : (out : List ℕ) (at : ℕ) (l : List ℕ) → at ≤ max_counted → (puts out at l).1 ≡ at_most (at + length l) max_counted
unfolding puts
puts_count out at [] h = let e : at + 0 ≡ at = omega arith in sym (ap (λ (n : ℕ). at_most n max_counted) e ∙ most_of at max_counted h)
puts_count out at (b ∷ l) h =
    by_cases (ltb at max_counted)
    (λ t.
    let g : at < max_counted = ltb-true at max_counted t in
    let e : suc at + length l ≡ at + suc (length l) = omega arith in
    ap (λ (k : ℕ). (puts (set out at b) k l).1) (counted_one at g) ∙ puts_count (set out at b) (suc at) l g ∙ ap (λ (n : ℕ). at_most n max_counted) e)
    (λ f.
    let g : max_counted ≤ at = ltb-false at max_counted f in
    ap (λ (k : ℕ). (puts (set out at b) k l).1) (counted_full at g)
    ∙ puts_count (set out at b) at l h
    ∙ most_full (at + length l) max_counted (omega (arith, g))
    ∙ sym (most_full (at + suc (length l)) max_counted (omega (arith, g))))

puts_sets : (out : List ℕ) (at : ℕ) (l : List ℕ) → at + length l ≤ max_counted → (puts out at l).0 ≡ sets out at l
unfolding puts
puts_sets out at [] h = refl
puts_sets out at (b ∷ l) h =
    ap (λ (k : ℕ). (puts (set out at b) k l).0) (counted_one at (omega (arith, h))) ∙ puts_sets (set out at b) (suc at) l (omega (arith, h))

-- bytes that have room in the buffer stand there, and nothing else is touched
pub puts_buffer : (out : List ℕ) (at : ℕ) (l : List ℕ) → at + length l ≤ length out → at + length l ≤ max_counted
    → (puts out at l).0 ≡ (take at out ++ l) ++ drop (at + length l) out
puts_buffer out at l h g = puts_sets out at l g ∙ sets-eq l out at h

-- they are written at once: the part that they fill is replaced
pub put_at_once : (out : List ℕ) (at : ℕ) {k : ℕ} (l : List ℕ) {m : List ℕ} → at + length l ≤ length out → at + length l ≤ max_counted → k ≡ length l → m ≡ l
    → Puts out at l (put_mid at k out m) (at + length l)
put_at_once out at {k = k} l {m = m} h g e d =
    let n = at + length l in
    let rest : drop k (drop at out) ≡ drop n out = ap (λ (j : ℕ). drop j (drop at out)) e ∙ drop-drop (length l) at out in
    let buffer : put_mid at k out m ≡ (puts out at l).0 =
    ap (λ (x : List ℕ). take at out ++ (m ++ x)) rest
    ∙ ap (λ (x : List ℕ). take at out ++ (x ++ drop n out)) d
    ∙ sym (append_assoc (take at out) l (drop n out))
    ∙ sym (puts_buffer out at l h g) in
    let counts : n ≡ (puts out at l).1 = sym (puts_count out at l (omega (arith, g)) ∙ most_of n max_counted g) in
    record { is = ap (λ (x : List ℕ). (x, n)) buffer ∙ ap (λ (x : ℕ). ((puts out at l).0, x)) counts }

-- ---- from any place on

later : (at : ℕ) → at ≤ counted at
unfolding counted
later at = by_cases (ltb at max_counted) (λ t. rw t (omega arith)) (λ f. rw f (le_refl at))

front : (k : ℕ) (out : List ℕ) (at : ℕ) (l : List ℕ) → k ≤ at → take k (puts out at l).0 ≡ take k out
unfolding puts
front k out at [] h = refl
front k out at (b ∷ l) h = front k (set out at b) (counted at) l (le_trans h (later at)) ∙ take-set-le k out at b h

-- what stood before it stays
pub placed_front : (out : List ℕ) (at : ℕ) {l after : List ℕ} {n : ℕ} → Puts out at l after n → take at after ≡ take at out
placed_front out at {l = l} p = ap (λ (q : List ℕ × ℕ). take at q.0) p.is ∙ front at out at l (le_refl at)

onward_at : (out : List ℕ) (at : ℕ) (l : List ℕ) → at ≤ (puts out at l).1
unfolding puts
onward_at out at [] = le_refl at
onward_at out at (b ∷ l) = le_trans (later at) (onward_at (set out at b) (counted at) l)

-- what was counted and has room stands after it
pub placed_whole : (out : List ℕ) (at : ℕ) {l after : List ℕ} {n : ℕ} → Puts out at l after n → n < max_counted → n ≤ length out
    → take n after ≡ take at out ++ l
placed_whole out at {l = l} {after = after} {n = n} p few room =
    let last : n ≡ (puts out at l).1 = ap (λ (q : List ℕ × ℕ). q.1) p.is in
    let starts : at ≤ n = subst (λ (k : ℕ). at ≤ k) (sym last) (onward_at out at l) in
    let counts : n ≡ at_most (at + length l) max_counted = last ∙ puts_count out at l (omega (arith, starts, few)) in
    let fits : at + length l ≤ max_counted = within (at + length l) counts in
    let is : n ≡ at + length l = counts ∙ most_of (at + length l) max_counted fits in
    let before : length (take at out) ≡ at = length-take-le at out (omega (arith, starts, room)) in
    let long : length (take at out ++ l) ≡ n = length-append (take at out) l ∙ ap (λ (k : ℕ). k + length l) before ∙ sym is in
    ap (λ (q : List ℕ × ℕ). take n q.0) p.is
    ∙ ap (take n) (puts_buffer out at l (omega (arith, is, room)) fits)
    ∙ take_at (take at out ++ l) (drop (at + length l) out) n long
  where
    within : (m : ℕ) → n ≡ at_most m max_counted → m ≤ max_counted
    within m e =
        by_cases (leb m max_counted)
        (λ t. leb-true m max_counted t)
        (λ f. absurd (let z : ⊥ = omega (arith, few, e ∙ most_full m max_counted (le_of_lt (leb-false m max_counted f))) in z))
