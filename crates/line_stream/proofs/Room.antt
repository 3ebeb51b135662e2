-- An answer with its number: what is put for it, and whether it has room.
use mathlib.Core.Path.{◌≡◌, sym, ap, ◌∙◌}
use mathlib.Core.Bool.{true}
use mathlib.Core.List.{List, ◌++◌, append_assoc}
use Prim.Native.Nat.{ℕ, ◌+◌, ◌≤◌, ◌<◌}
use native.Mathlib.Omega.{arith}
use lib.Dec.{ltb, leb}
use lib.ListN.{length}
use borrow.Author.Tests.{ltb-true, ltb-false, leb-true}
use Rattle.forms.specs.Bytes.{text}
use Rattle.forms.proofs.Bools.{by_cases, both_left, both_right}
use Rattle.definitions.specs.Canonical.{decimal}
use Rattle.write_bytes.specs.Puts.{max_counted, Puts}
use Rattle.write_bytes.specs.Clipped.{at_most}
use Rattle.write_bytes.proofs.Putting.{then as joined, told, same_length}
use Rattle.write_bytes.proofs.Whole.{most_of, most_full, puts_count}
use Rattle.line_stream.specs.Stream.{line_answer, has_room}

-- number and tab, the answer, LF
pub line_put : (answer : List ℕ → List ℕ) (n : ℕ) (s : List ℕ) {out o o' o'' : List ℕ} {at i j k : ℕ}
    → Puts out at (decimal n ++ text "\t") o i → Puts o i (answer s) o' j → Puts o' j (text "\n") o'' k → Puts out at (line_answer answer n s) o'' k
line_put answer n s a b c = told (sym (append_assoc (decimal n) (text "\t") (answer s ++ text "\n"))) (joined a (joined b c))

-- how many bytes were put from the start of a buffer on, if they are counted
pub all_counted : {out l o : List ℕ} {n : ℕ} → Puts out 0 l o n → length l < max_counted → n ≡ length l
all_counted {out = out} {l = l} p few =
    let none : 0 + length l ≡ length l = omega arith in
    ap (λ (q : List ℕ × ℕ). q.1) p.is
    ∙ puts_count out 0 l (omega arith)
    ∙ ap (λ (n : ℕ). at_most n max_counted) none
    ∙ most_of (length l) max_counted (omega (arith, few))

-- they have room where they were counted, if they have by their length
pub room_same : {out l o : List ℕ} {n : ℕ} → Puts out 0 l o n → has_room n (length o) ≡ has_room (length l) (length out)
room_same {out = out} {l = l} {o = o} {n = n} p =
    by_cases (ltb (length l) max_counted)
    (λ t. rw (all_counted p (ltb-true (length l) max_counted t), same_length p))
    (λ f.
    let many : max_counted ≤ length l = ltb-false (length l) max_counted f in
    let full : n ≡ max_counted =
    ap (λ (q : List ℕ × ℕ). q.1) p.is ∙ puts_count out 0 l (omega arith) ∙ most_full (0 + length l) max_counted (omega (arith, many)) in
    rw (full, f))

-- what has room is counted, and within the buffer
pub room_counted : (n len : ℕ) → has_room n len ≡ true → n < max_counted
room_counted n len t = ltb-true n max_counted (both_left (ltb n max_counted) (leb n len) t)

pub room_within : (n len : ℕ) → has_room n len ≡ true → n ≤ len
room_within n len t = leb-true n len (both_right (ltb n max_counted) (leb n len) t)
