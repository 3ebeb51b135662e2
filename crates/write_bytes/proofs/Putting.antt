-- What is put in parts is put as a whole.
use mathlib.Core.Path.{◌≡◌, refl, sym, ap, ◌∙◌}
use mathlib.Core.List.{List, [], ◌∷◌, ◌++◌}
use Prim.Native.Nat.{ℕ, suc, ◌+◌, ◌≤◌, ◌<◌}
use native.Mathlib.Numerals.{add-one}
use lib.ListN.{length, set, get_or, drop, length-set, drop_of_length-le}
use lib.Seq.{drop-cons, set_out}
use native.Mathlib.Omega.{arith}
use borrow.Author.Tests.{lt-ltb}
use Rattle.write_bytes.specs.Puts.{max_counted, counted, puts, Puts}

-- ---- one byte

pub one_put : {out : List ℕ} {at b next : ℕ} → next ≡ counted at → Puts out at (b ∷ []) (set out at b) next
unfolding puts
one_put {out = out} {at = at} {b = b} e = record { is = ap (λ (n : ℕ). (set out at b, n)) e }

-- past the end nothing is kept
pub one_past_lem : {out : List ℕ} {at b next : ℕ} → length out ≤ at → next ≡ counted at → Puts out at (b ∷ []) out next
unfolding puts
one_past_lem {out = out} {at = at} {b = b} {next = next} h e =
    record { is = ap (λ (l : List ℕ). (l, next)) (sym (set_out out at b h)) ∙ ap (λ (n : ℕ). (set out at b, n)) e }

pub counted_one : (at : ℕ) → at < max_counted → counted at ≡ suc at
unfolding counted
counted_one at h = rw (lt-ltb at max_counted h)

-- a byte that has room and is counted
pub one_kept : (out : List ℕ) (at b : ℕ) → at < max_counted → Puts out at (b ∷ []) (set out at b) (suc at)
one_kept out at b h = one_put (sym (counted_one at h))

-- bytes past the end are counted only
pub all_past : (out : List ℕ) (at : ℕ) (l : List ℕ) → length out ≤ at → at + length l ≤ max_counted → Puts out at l out (at + length l)
unfolding puts
all_past out at [] h g = record { is = let e : at + 0 ≡ at = omega arith in ap (λ (n : ℕ). (out, n)) e }
all_past out at (b ∷ l) h g =
    let e : suc at + length l ≡ at + suc (length l) = omega arith in
    record {
      is =
          ap (λ (n : ℕ). (out, n)) (sym e)
          ∙ (all_past out (suc at) l (omega (arith, h)) (omega (arith, g))).is
          ∙ sym (rw (set_out out at b h, counted_one at (omega (arith, g))));
    }

-- ---- parts

pub none_put : {out : List ℕ} {at : ℕ} → Puts out at [] out at
unfolding puts
none_put = record { is = refl }

puts_append : (out : List ℕ) (at : ℕ) (k l : List ℕ) → puts out at (k ++ l) ≡ puts (puts out at k).0 (puts out at k).1 l
unfolding puts
puts_append out at [] l = refl
puts_append out at (b ∷ k) l = puts_append (set out at b) (counted at) k l

-- one after the other
pub then : {out : List ℕ} {at : ℕ} {k l : List ℕ} {o o' : List ℕ} {n n' : ℕ} → Puts out at k o n → Puts o n l o' n' → Puts out at (k ++ l) o' n'
then {out = out} {at = at} {k = k} {l = l} e e' = record { is = e'.is ∙ ap (λ (p : List ℕ × ℕ). puts p.0 p.1 l) e.is ∙ sym (puts_append out at k l) }

-- the same bytes, said otherwise
pub told : {out : List ℕ} {at : ℕ} {k l : List ℕ} {o : List ℕ} {n : ℕ} → l ≡ k → Puts out at k o n → Puts out at l o n
told {out = out} {at = at} e p = record { is = p.is ∙ ap (puts out at) (sym e) }

-- what is still to be put after a part
pub onward : {out : List ℕ} {at : ℕ} {k o : List ℕ} {n : ℕ} (l : List ℕ) → Puts out at k o n → puts out at (k ++ l) ≡ puts o n l
onward {out = out} {at = at} {k = k} l e = puts_append out at k l ∙ ap (λ (p : List ℕ × ℕ). puts p.0 p.1 l) (sym e.is)

-- the buffer keeps its length
puts_length : (out : List ℕ) (at : ℕ) (l : List ℕ) → length (puts out at l).0 ≡ length out
unfolding puts
puts_length out at [] = refl
puts_length out at (b ∷ l) = puts_length (set out at b) (counted at) l ∙ length-set out at b

pub same_length : {out : List ℕ} {at : ℕ} {l : List ℕ} {o : List ℕ} {n : ℕ} → Puts out at l o n → length o ≡ length out
same_length {out = out} {at = at} {l = l} e = ap (λ (p : List ℕ × ℕ). length p.0) e.is ∙ puts_length out at l

-- ---- a list, byte by byte

pub put_on : (out : List ℕ) (at : ℕ) (w : List ℕ) (i : ℕ) {o : List ℕ} {n : ℕ} → i < length w → Puts out at (get_or w i 0 ∷ []) o n
    → puts out at (drop i w) ≡ puts o n (drop (i + 1) w)
unfolding puts
put_on out at w i h e = rw (drop-cons w i 0 h, add-one i) (ap (λ (p : List ℕ × ℕ). puts p.0 p.1 (drop (suc i) w)) (sym e.is))

pub put_all : (out : List ℕ) (at : ℕ) (w : List ℕ) (i : ℕ) → length w ≤ i → puts out at (drop i w) ≡ (out, at)
unfolding puts
put_all out at w i h = rw (drop_of_length-le w h)
