-- A part more of a line: kept as far as the buffer has room; what is kept stays the first bytes of the line.
use Rattle.std.specs.Prelude.{if◌then◌else◌}
use mathlib.Core.Path.{◌≡◌, refl, sym, ap, ◌∙◌}
use mathlib.Core.List.{List, [], ◌∷◌, ◌++◌, append_assoc}
use Prim.Native.Nat.{ℕ, zero, suc, ◌+◌, ◌-◌, ◌≤◌, ◌<◌}
use native.Mathlib.Omega.{arith}
use native.Mathlib.Nat.{le_refl}
use lib.Dec.{ltb, leb}
use lib.ListN.{length, take, drop, set, length-append, length-set}
use lib.Seq.{take-nil, take_all, take-append-le, take-suc-set, length-take-le, set_out, sets, sets-eq, length-sets, drop-drop}
use borrow.Rule.Slice.PartMut.{put_mid}
use borrow.Author.Tests.{le-ltb, ltb-true, ltb-false, leb-true, leb-false}
use Rattle.forms.proofs.Bools.{by_cases}
use Rattle.write_bytes.specs.Clipped.{at_most}
use Rattle.write_bytes.proofs.Clipping.{at_most_le, taken_most}
use Rattle.write_bytes.proofs.Whole.{most_of, most_full}
use Rattle.line_stream.specs.Steps.{Keeps}

-- ---- byte by byte

-- one byte more of what is kept of a line
abbrev more : ℕ → List ℕ → ℕ → List ℕ
more room s b = if ltb (length s) room then s ++ (b ∷ []) else s

-- as the line's first bytes
pub first_more : (room : ℕ) (s : List ℕ) (b : ℕ) → more room (take room s) b ≡ take room (s ++ (b ∷ []))
first_more room s b =
    by_cases (ltb (length s) room)
    (λ t.
    let h : length s < room = ltb-true (length s) room t in
    let long : length (s ++ (b ∷ [])) ≤ room = omega (arith, h, length-append s (b ∷ [])) in
    rw (take_all room s (omega (arith, h)), t) (sym (take_all room (s ++ (b ∷ [])) long)))
    (λ f.
    let h : room ≤ length s = ltb-false (length s) room f in
    rw (length-take-le room s h, le-ltb room room (le_refl room)) (sym (take-append-le room s (b ∷ []) h)))

-- as the front of a buffer
pub kept_one : (line : List ℕ) (n b : ℕ) {room : ℕ} → length line ≡ room → more room (take n line) b ≡ take (suc n) (set line n b)
kept_one line n b {room = room} e =
    by_cases (ltb n room)
    (λ t.
    let h : n < length line = omega (arith, e, ltb-true n room t) in
    rw (length-take-le n line (omega (arith, h)), t) (sym (take-suc-set line n b h)))
    (λ f.
    let h : length line ≤ n = omega (arith, e, ltb-false n room f) in
    rw (take_all n line h, le-ltb (length line) room (omega (arith, e)), set_out line n b h) (sym (take_all (suc n) line (omega (arith, h)))))

-- ---- stored one after the other

sets_past : (line : List ℕ) (n : ℕ) (part : List ℕ) → length line ≤ n → sets line n part ≡ line
sets_past line n [] h = refl
sets_past line n (b ∷ part) h = rw (set_out line n b h) (sets_past line (suc n) part (omega (arith, h)))

-- what is past the end is not kept
sets_fitting : (line : List ℕ) (n k : ℕ) (part : List ℕ) → length line ≤ n + k → sets line n (take k part) ≡ sets line n part
sets_fitting line n k [] h = ap (sets line n) (take-nil k)
sets_fitting line n zero (b ∷ part) h = sym (sets_past line n (b ∷ part) (omega (arith, h)))
sets_fitting line n (suc k) (b ∷ part) h = sets_fitting (set line n b) (suc n) k part (omega (arith, h, length-set line n b))

at_most_n : (n most : ℕ) → at_most n most ≤ n
unfolding at_most
at_most_n n most = by_cases (leb n most) (λ t. rw t (le_refl n)) (λ f. rw f (omega (arith, leb-false n most f)))

-- the buffer, from a place that is past its end or not
clipped_start : (line : List ℕ) (len : ℕ) (part : List ℕ) → sets line (at_most len (length line)) part ≡ sets line len part
unfolding at_most
clipped_start line len part =
    by_cases (leb len (length line))
    (λ t. rw t)
    (λ f.
    let h : length line ≤ len = omega (arith, leb-false len (length line) f) in
    rw f (sets_past line (length line) part (le_refl (length line)) ∙ sym (sets_past line len part h)))

-- a number of bytes that is clipped twice
clipped_sum : (len n room : ℕ) → at_most len room + at_most (room - at_most len room) n ≡ at_most (len + n) room
clipped_sum len n room =
    by_cases (leb (len + n) room)
    (λ t.
    let h : len + n ≤ room = leb-true (len + n) room t in
    let first : at_most len room ≡ len = most_of len room (omega (arith, h)) in
    rw (most_of (len + n) room h, first, most_full (room - len) n (omega (arith, h))))
    (λ f.
    let h : room < len + n = leb-false (len + n) room f in
    rw (most_full (len + n) room (omega (arith, h)))
    (by_cases (leb len room)
    (λ t.
    let g : len ≤ room = leb-true len room t in
    rw (most_of len room g, most_of (room - len) n (omega (arith, h))) (omega (arith, g)))
    (λ w.
    let none : room - room ≡ 0 = omega arith in
    rw (most_full len room (omega (arith, leb-false len room w)), none, most_of 0 n (omega arith)) (omega arith))))

-- bytes that have room take the place of those there
sets_part : (line : List ℕ) (at : ℕ) {k : ℕ} (l : List ℕ) {m : List ℕ} → at + length l ≤ length line → k ≡ length l → m ≡ l
    → put_mid at k line m ≡ sets line at l
sets_part line at {k = k} l h e d =
    let rest = ap (λ (j : ℕ). drop j (drop at line)) e ∙ drop-drop (length l) at line in
    ap (λ (x : List ℕ). take at line ++ (x ++ drop k (drop at line))) d
    ∙ ap (λ (x : List ℕ). take at line ++ (l ++ x)) rest
    ∙ sym (append_assoc (take at line) l (drop (at + length l) line))
    ∙ sym (sets-eq l line at h)

module _ (line part : List ℕ) (len : ℕ) {first n : ℕ} (from : first ≡ at_most len (length line)) (all : n ≡ at_most (length line - first) (length part)) where
  pub part_within : n ≤ length part
  part_within = omega (arith, all, at_most_le (length line - first) (length part))

  pub part_room : first + n ≤ length line
  part_room = omega (arith, from, at_most_le len (length line), all, at_most_n (length line - first) (length part))

  -- so many of the bytes that have room stand in the buffer
  pub part_kept : {k : ℕ} {m : List ℕ} → k ≡ n → m ≡ take n part → Keeps line (put_mid first k line m) len part (first + n)
  part_kept e d =
      let long : length (take n part) ≡ n = length-take-le n part part_within in
      record {
        kept =
            sets_part line first (take n part) (omega (arith, long, part_room)) (e ∙ sym long) d
            ∙ ap (sets line first) (sym (taken_most (length line - first) part refl all))
            ∙ sets_fitting line first (length line - first) part (omega (arith, part_room))
            ∙ ap (λ (k : ℕ). sets line k part) from
            ∙ clipped_start line len part;
        long = rw (all, from) (clipped_sum len (length part) (length line));
      }

pub keeps_length : {line line' part : List ℕ} {len r : ℕ} → Keeps line line' len part r → length line' ≡ length line
keeps_length {line = line} {part = part} {len = len} k = ap length k.kept ∙ length-sets line len part

-- where all lines beyond so many bytes have one answer, any more bytes of a line are the same
pub kept_beyond : {A : Type 0} (answer : List ℕ → A) (most : ℕ) (same : A) → ((s : List ℕ) → most < length s → answer s ≡ same)
    → (m : ℕ) (s : List ℕ) → most < m → answer (take m s) ≡ answer s
kept_beyond answer most same long m s h =
    by_cases (leb (length s) m)
    (λ t. ap answer (take_all m s (leb-true (length s) m t)))
    (λ f.
    let more : m < length s = leb-false (length s) m f in
    let e : length (take m s) ≡ m = length-take-le m s (omega (arith, more)) in
    long (take m s) (omega (arith, h, e)) ∙ sym (long s (omega (arith, h, more))))
