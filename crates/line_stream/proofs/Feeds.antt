-- WHAT A FEED LEAVES, from its equations: the buffers are as long as before, the output's first bytes are what was written, and line buffer and line begun
-- stand for the program's state after what was taken. Byte by byte: an LF is taken only where its line's answer has room.
use mathlib.Core.Path.{◌≡◌, refl, sym, ap, subst, ◌∙◌}
use mathlib.Core.Bool.{true, false}
use mathlib.Core.List.{List, [], ◌∷◌, ◌++◌}
use Prim.Native.Nat.{ℕ, suc, ◌≤◌, ◌<◌}
use native.Mathlib.Omega.{arith}
use native.Mathlib.Nat.{not-suc-le-zero, le_of_suc-le-suc}
use lib.Dec.{eqb}
use lib.ListN.{length, get_or, take, set, length-set, length-append}
use lib.Seq.{length-take-le}
use borrow.Author.Tests.{eqb-true}
use Rattle.forms.proofs.Bools.{by_cases}
use Rattle.write_bytes.specs.Puts.{max_counted, puts, Puts}
use Rattle.write_bytes.specs.Clipped.{at_most}
use Rattle.write_bytes.proofs.Putting.{onward, same_length}
use Rattle.write_bytes.proofs.Whole.{placed_front, placed_whole}
use Rattle.write_bytes.proofs.Clipping.{at_most_le, taken_most}
use Rattle.line_stream.specs.declared.Begun.{Begun}
use Rattle.line_stream.specs.declared.Fed.{Fed}
use Rattle.line_stream.specs.Stream.{next_number, State, line_state, longer, has_room, line_after, line_answer, ended, byte_read, after, answer_fits, taken_of}
use Rattle.line_stream.specs.Stream.{bytes_taken, fed_state, answer_left, Feeds}
use Rattle.line_stream.proofs.Room.{all_counted, room_counted, room_within}
use Rattle.line_stream.proofs.Keeping.{kept_one}
use Rattle.line_stream.proofs.States.{begun_line}

-- ---- the line buffer

line_length : (line : List ℕ) (n : ℕ) (l : List ℕ) → length (line_after line n l) ≡ length line
unfolding line_after
line_length line n [] = refl
line_length line n (b ∷ l) =
    by_cases (eqb b 10) (λ t. rw t (line_length line 0 l)) (λ f. rw f (line_length (set line n b) (suc n) l ∙ length-set line n b))

module _ (answer : List ℕ → List ℕ) where
  -- its front is what is kept of the line begun
  module _ (room : ℕ) where
    abbrev Front : State → List ℕ → List ℕ → Type 0
    Front st l line = take (length (after answer room st l).begun) line ≡ (after answer room st l).begun

    front_on : (line : List ℕ) (n b : ℕ) (l : List ℕ) (st : State) {x : State} {o : List ℕ} → byte_read answer room st b ≡ x → line_after line n (b ∷ l) ≡ o
        → Front x l o → Front st (b ∷ l) (line_after line n (b ∷ l))
    unfolding after
    front_on line n b l st {o = o} e k h = rw k (subst (λ (y : State). Front y l o) (sym e) h)

    line_front : (m : ℕ) (w line : List ℕ) (n : ℕ) (l : List ℕ) → length line ≡ room → Front (begun_line m w (take n line)) l (line_after line n l)
    unfolding after line_after
    line_front m w line n [] e =
        let most = at_most n (length line) in
        let is : take n line ≡ take most line = taken_most n line refl refl in
        let long : length (take n line) ≡ most = ap length is ∙ length-take-le most line (at_most_le n (length line)) in
        ap (λ (k : ℕ). take k line) long ∙ sym is
    line_front m w line n (b ∷ l) e =
        let st = begun_line m w (take n line) in
        by_cases (eqb b 10)
        (λ t. front_on line n b l st {x = ended answer st} (rw t) (rw t) (line_front (next_number m) (ended answer st).written line 0 l e))
        (λ f.
        let next : longer room st b ≡ begun_line m w (take (suc n) (set line n b)) = ap (begun_line m w) (kept_one line n b e) in
        front_on line n b l st (rw f next) (rw f) (line_front m w (set line n b) (suc n) l (length-set line n b ∙ e)))

  -- ---- what is taken

  module _ (room len : ℕ) where
    abbrev end : State → List ℕ → State
    end st l = after answer room st (take (taken_of answer room len st l) l)

    -- by the first byte: an LF whose line's answer has no room, one whose has, or another byte
    by_first : (st : State) (b : ℕ) (l : List ℕ) (P : ℕ → State → Type 0) → (eqb b 10 ≡ true → answer_fits answer st len ≡ false → P 0 st)
        → (answer_fits answer st len ≡ true → P (suc (taken_of answer room len (ended answer st) l)) (end (ended answer st) l))
        → P (suc (taken_of answer room len (longer room st b) l)) (end (longer room st b) l) → P (taken_of answer room len st (b ∷ l)) (end st (b ∷ l))
    unfolding taken_of after
    by_first st b l P full lf on =
        by_cases (eqb b 10)
        (λ t.
        by_cases (answer_fits answer st len) (λ y. taken (ended answer st) (rw t) (rw (t, y)) (lf y)) (λ n. at_n 0 (rw (t, n)) (full t n)))
        (λ f. taken (longer room st b) (rw f) (rw f) on)
      where
        at_n : (n : ℕ) → taken_of answer room len st (b ∷ l) ≡ n → P n (after answer room st (take n (b ∷ l)))
            → P (taken_of answer room len st (b ∷ l)) (end st (b ∷ l))
        at_n n e h = subst (λ (k : ℕ). P k (after answer room st (take k (b ∷ l)))) (sym e) h

        taken : (x : State) → byte_read answer room st b ≡ x → taken_of answer room len st (b ∷ l) ≡ suc (taken_of answer room len x l)
            → P (suc (taken_of answer room len x l)) (end x l) → P (taken_of answer room len st (b ∷ l)) (end st (b ∷ l))
        taken x e k h =
            let n = taken_of answer room len x l in
            at_n (suc n) k (subst (λ (y : State). P (suc n) (after answer room y (take n l))) (sym e) h)

    taken_le : (st : State) (l : List ℕ) → taken_of answer room len st l ≤ length l
    unfolding taken_of
    taken_le st [] = omega arith
    taken_le st (b ∷ l) =
        by_first st b l (λ n _. n ≤ suc (length l))
        (λ _ _. omega arith)
        (λ _. let h = taken_le (ended answer st) l in omega (arith, h))
        (let h = taken_le (longer room st b) l in omega (arith, h))

    record Fits (w : List ℕ) : Type 0 where
      few : length w < max_counted
      within : length w ≤ len

    ended_fits : (st : State) → answer_fits answer st len ≡ true → Fits (ended answer st).written
    ended_fits st y =
        let n = length (ended answer st).written in
        let long = length-append st.written (line_answer answer st.number st.begun) in
        let fits : has_room n len ≡ true = ap (λ (k : ℕ). has_room k len) long ∙ y in
        record { few = room_counted n len fits; within = room_within n len fits }

    end_fits : (st : State) (l : List ℕ) → Fits st.written → Fits (end st l).written
    unfolding taken_of after
    end_fits st [] h = h
    end_fits st (b ∷ l) h =
        by_first st b l (λ _ x. Fits x.written)
        (λ _ _. h)
        (λ y. end_fits (ended answer st) l (ended_fits st y))
        (end_fits (longer room st b) l h)

    -- it ends at an LF whose line's answer has no room
    end_lf : (st : State) (l : List ℕ) → taken_of answer room len st l < length l
        → (get_or l (taken_of answer room len st l) 0 ≡ 10) × (answer_fits answer (end st l) len ≡ false)
    unfolding taken_of after
    end_lf st [] = λ h. absurd (not-suc-le-zero h)
    end_lf st (b ∷ l) =
        by_first st b l (λ n x. n < suc (length l) → (get_or (b ∷ l) n 0 ≡ 10) × (answer_fits answer x len ≡ false))
        (λ t n _. (eqb-true b 10 t, n))
        (λ _ h. end_lf (ended answer st) l (le_of_suc-le-suc h))
        (λ h. end_lf (longer room st b) l (le_of_suc-le-suc h))

  -- ---- a feed

  module _ {input line out line' out' : List ℕ} {b : Begun} {r : Fed} (f : Feeds answer input line out b line' out' r) where
    abbrev last : State
    last = fed_state answer input line out b

    pub taken_is : r.taken ≡ bytes_taken answer input line out b
    taken_is = ap (λ (x : Fed). x.taken) f.fed

    pub taken_within : r.taken ≤ length input
    taken_within = omega (arith, taken_is, taken_le (length line) (length out) (line_state b line []) input)

    pub same_line : length line' ≡ length line
    same_line = ap length f.kept ∙ line_length line b.len (take (bytes_taken answer input line out b) input)

    all_put : Puts out 0 (last.written ++ answer_left answer input line out b) out' (puts out 0 (last.written ++ answer_left answer input line out b)).1
    all_put = record { is = ap (λ (l : List ℕ). (l, (puts out 0 (last.written ++ answer_left answer input line out b)).1)) f.put }

    pub same_out : length out' ≡ length out
    same_out = same_length all_put

    fits : Fits (length line) (length out) last.written
    fits = end_fits (length line) (length out) (line_state b line []) input (record { few = omega arith; within = omega arith })

    pub put_within : r.put ≤ length out'
    put_within = omega (arith, ap (λ (x : Fed). x.put) f.fed, fits.within, same_out)

    -- the output's first bytes are what was written
    pub written_is : take r.put out' ≡ last.written
    written_is =
        let w = last.written in
        let l = answer_left answer input line out b in
        let o = (puts out 0 w).0 in
        let m = (puts out 0 w).1 in
        let first : Puts out 0 w o m = record { is = refl } in
        let counts : m ≡ length w = all_counted first fits.few in
        let rest : Puts o m l out' (puts o m l).1 =
        record { is = ap (λ (x : List ℕ). (x, (puts o m l).1)) (f.put ∙ ap (λ (q : List ℕ × ℕ). q.0) (onward l first)) } in
        ap (λ (x : Fed). take x.put out') f.fed
        ∙ ap (λ (k : ℕ). take k out') (sym counts)
        ∙ placed_front o m rest
        ∙ placed_whole out 0 first (omega (arith, counts, fits.few)) (omega (arith, counts, fits.within))

    -- line buffer and line begun are the program's state after what was taken
    pub stands : line_state r.begun line' (take r.put out') ≡ after answer (length line) (line_state b line []) (take r.taken input)
    stands =
        let i = bytes_taken answer input line out b in
        ap (λ (x : Fed). line_state x.begun line' (take r.put out')) f.fed
        ∙ ap (λ (x : List ℕ). begun_line last.number (take r.put out') (take (length last.begun) x)) f.kept
        ∙ ap (begun_line last.number (take r.put out')) (line_front (length line) b.number [] line b.len (take i input) refl)
        ∙ ap (λ (w : List ℕ). begun_line last.number w last.begun) written_is
        ∙ ap (λ (k : ℕ). after answer (length line) (line_state b line []) (take k input)) (sym taken_is)

    -- all is taken, or up to an LF whose line's answer has no room
    pub stops : r.taken < length input
        → (get_or input r.taken 0 ≡ 10) × (answer_fits answer (after answer (length line) (line_state b line []) (take r.taken input)) (length out) ≡ false)
    stops h = rw taken_is (end_lf (length line) (length out) (line_state b line []) input (rw taken_is at h))
