-- THE LOOP of a feed, whatever is answered: after each line the code is in the program's state after the bytes taken so far, and what is still to come is what
-- comes from there on. A program's proof of `feed` cites `Loop`, its invariant, and the five laws on it.
use Rattle.std.specs.Prelude.{if◌then◌else◌}
use mathlib.Core.Path.{◌≡◌, refl, sym, ap, subst, ◌∙◌}
use mathlib.Core.Bool.{true, false, false≢true}
use mathlib.Core.List.{List, [], ◌∷◌, ◌++◌, append_assoc, append-nil}
use Prim.Native.Nat.{ℕ, suc, ◌+◌, ◌≤◌, ◌<◌}
use native.Mathlib.Omega.{arith}
use native.Mathlib.Numerals.{add-one}
use lib.Dec.{ltb}
use lib.ListN.{length, get_or, take, drop, length-append}
use lib.Seq.{length-take-le, sets, length-sets, take-suc}
use borrow.Author.Tests.{lt-ltb, ltb-true, ltb-false}
use Rattle.forms.specs.Bytes.{text}
use Rattle.forms.proofs.Bools.{by_cases}
use Rattle.definitions.specs.Canonical.{decimal}
use Rattle.write_bytes.specs.Puts.{max_counted, puts, Puts}
use Rattle.write_bytes.specs.Clipped.{at_most}
use Rattle.write_bytes.proofs.Putting.{then as joined, told, none_put}
use Rattle.write_bytes.proofs.Clipping.{at_most_le}
use Rattle.line_stream.specs.declared.Begun.{Begun}
use Rattle.line_stream.specs.declared.Fed.{Fed}
use Rattle.line_stream.specs.declared.Feeding.{Feeding}
use Rattle.line_stream.specs.Stream.{State, line_state, ended, after, has_room, line_answer, line_after, answer_fits, taken_of, Feeds}
use Rattle.line_stream.specs.Steps.{lf_from, line_from, Takes, Nexts, lines_left}
use Rattle.line_stream.proofs.Room.{line_put, all_counted, room_same, room_counted}
use Rattle.line_stream.proofs.Parts.{line_within, line_lf, line_inside, line_after_lem, line_length, line_rest}
use Rattle.line_stream.proofs.Keeping.{keeps_length}
use Rattle.line_stream.proofs.States.{begun_line, after_append, after_line, after_lf}
use Rattle.line_stream.proofs.Taken.{line_on, line_clipped, taken_line, taken_lf, taken_full, taken_end}

abbrev fed_by : ℕ → ℕ → ℕ → ℕ → Fed
fed_by i place n len = record { taken = i; put = place; begun = record { number = n; len = len } }

module _ (answer : List ℕ → List ℕ) where
  module _ (input line₀ out₀ : List ℕ) (b : Begun) where
    abbrev now : ℕ → State
    now i = after answer (length line₀) (line_state b line₀ []) (take i input)

    -- how many bytes are taken from there on
    abbrev left : ℕ → ℕ
    left i = taken_of answer (length line₀) (length out₀) (now i) (drop i input)

    -- the answer that has no room there, if not all is taken
    abbrev unput : ℕ → List ℕ
    unput i = if ltb i (length input) then line_answer answer (now i).number (now i).begun else []

    -- ---- the code is in the program's state after i bytes

    record At (i : ℕ) (line out : List ℕ) (place : ℕ) (g : Begun) : Type 0 where
      within : i ≤ length input
      taken : taken_of answer (length line₀) (length out₀) (line_state b line₀ []) input ≡ i + left i
      same_line : length line ≡ length line₀
      kept : (l : List ℕ) → line_after line₀ b.len (take i input ++ l) ≡ line_after line g.len l
      is : line_state g line (now i).written ≡ now i
      few : length (now i).written < max_counted
      put : Puts out₀ 0 (now i).written out place

    -- nothing more is taken: the feed is done
    ends : {i place n : ℕ} {line before l out : List ℕ} {g : Begun} → At i line before place g → g.len ≤ length line → left i ≡ 0
        → unput i ≡ l → Puts before place l out n → Feeds answer input line₀ out₀ b line out (record { taken = i; put = place; begun = g })
    unfolding line_after
    ends {i = i} {line = line} {g = g} s clipped none e p =
        let all : i ≡ taken_of answer (length line₀) (length out₀) (line_state b line₀ []) input = omega (arith, s.taken, none) in
        let long : g.len ≡ length (now i).begun = sym (length-take-le g.len line clipped) ∙ ap (λ (st : State). length st.begun) s.is in
        let numbered : g.number ≡ (now i).number = ap (λ (st : State). st.number) s.is in
        record {
          fed =
              ap (λ (k : ℕ). fed_by i k g.number g.len) (all_counted s.put s.few)
              ∙ ap (λ (k : ℕ). fed_by i (length (now i).written) k g.len) numbered
              ∙ ap (λ (k : ℕ). fed_by i (length (now i).written) (now i).number k) long
              ∙ ap (λ (k : ℕ). fed_by k (length (now k).written) (now k).number (length (now k).begun)) all;
          kept = sym (s.kept []) ∙ ap (line_after line₀ b.len) (append-nil (take i input)) ∙ ap (λ (k : ℕ). line_after line₀ b.len (take k input)) all;
          put = ap (λ (q : List ℕ × ℕ). q.0) (joined s.put (told e p)).is ∙ ap (λ (k : ℕ). (puts out₀ 0 ((now k).written ++ unput k)).0) all;
        }

    -- where a line waits, an LF comes, and number and tab were put

    record Waiting (line out : List ℕ) (t : Feeding) : Type 0 where
      before : List ℕ
      at : At t.fed.taken line before t.fed.put t.fed.begun
      opened : Puts before t.fed.put (decimal t.fed.begun.number ++ text "\t") out t.at
      clipped : t.fed.begun.len ≤ length line
      inside : t.fed.taken < length input
      lf : get_or input t.fed.taken 0 ≡ 10

    record SoFar (line out : List ℕ) (t : Feeding) : Type 0 where
      waits : t.waits ≡ true → Waiting line out t
      done : t.waits ≡ false → Feeds answer input line₀ out₀ b line out t.fed

    -- a line is taken
    module _
        {i place : ℕ} {line line' out out' : List ℕ} {g : Begun} {r : Feeding} (k : Takes input i line line' out out' place g r)
        (s : At i line out place g) where
      abbrev end : ℕ
      end = lf_from input i

      abbrev part : List ℕ
      part = line_from input i

      later : after answer (length line₀) (now i) part ≡ now end
      later =
          sym (after_append answer (length line₀) (line_state b line₀ []) (take i input) part)
          ∙ ap (after answer (length line₀) (line_state b line₀ [])) (sym (line_after_lem input i))

      begun-end : begun_line g.number (now i).written (take k.len line') ≡ now end
      begun-end =
          ap (λ (l : List ℕ). begun_line g.number (now i).written (take k.len l)) k.keeps.kept
          ∙ ap (λ (n : ℕ). begun_line g.number (now i).written (take n (sets line g.len part))) k.keeps.long
          ∙ ap (λ (n : ℕ). begun_line g.number (now i).written (take (at_most (g.len + length part) n) (sets line g.len part))) s.same_line
          ∙ sym (after_line answer g.number (now i).written line g.len part s.same_line (line_inside input i))
          ∙ ap (λ (x : State). after answer (length line₀) x part) s.is
          ∙ later

      same-written : (now i).written ≡ (now end).written
      same-written = ap (λ (x : State). x.written) begun-end

      line-end : (l : List ℕ) → line_after line g.len (part ++ l) ≡ line_after line' k.len l
      line-end l =
          line_on line g.len part l (line_inside input i)
          ∙ line_clipped (sets line g.len part) (g.len + length part) l
          ∙ ap (λ (n : ℕ). line_after (sets line g.len part) (at_most (g.len + length part) n) l) (length-sets line g.len part)
          ∙ ap (λ (n : ℕ). line_after (sets line g.len part) n l) (sym k.keeps.long)
          ∙ ap (λ (x : List ℕ). line_after x k.len l) (sym k.keeps.kept)

      left_end : left i ≡ length part + left end
      left_end =
          ap (taken_of answer (length line₀) (length out₀) (now i)) (line_rest input i)
          ∙ taken_line answer (length line₀) (length out₀) (now i) part (drop end input) (line_inside input i)
          ∙ ap (λ (x : State). length part + taken_of answer (length line₀) (length out₀) x (drop end input)) later

      at-end : At end line' out place (record { number = g.number; len = k.len })
      at-end = record {
        within = line_within input i s.within;
        taken = omega (arith, s.taken, left_end, line_length input i);
        same_line = keeps_length k.keeps ∙ s.same_line;
        kept = λ l.
            ap (λ (x : List ℕ). line_after line₀ b.len (x ++ l)) (line_after_lem input i)
            ∙ ap (line_after line₀ b.len) (append_assoc (take i input) part l)
            ∙ s.kept (part ++ l)
            ∙ line-end l;
        is = ap (λ (w : List ℕ). begun_line g.number w (take k.len line')) (sym same-written) ∙ begun-end;
        few = subst (λ (w : List ℕ). length w < max_counted) same-written s.few;
        put = subst (λ (w : List ℕ). Puts out₀ 0 w out place) same-written s.put;
      }

      clipped-end : k.len ≤ length line'
      clipped-end = omega (arith, k.keeps.long, at_most_le (g.len + length part) (length line), keeps_length k.keeps)

      all-taken : ltb end (length input) ≡ false → end ≡ length input
      all-taken f = omega (arith, ltb-false end (length input) f, line_within input i s.within)

      none_left : ltb end (length input) ≡ false → left end ≡ 0
      none_left f =
          ap (λ (n : ℕ). taken_of answer (length line₀) (length out₀) (now end) (drop n input)) (all-taken f)
          ∙ taken_end answer (length line₀) (length out₀) (now end) input

      taken : SoFar line' out' r
      taken = subst (SoFar line' out') (sym k.is) (record {
        waits = λ t.
            record {
              before = out;
              at = at-end;
              opened = rw t at k.opened;
              clipped = clipped-end;
              inside = ltb-true end (length input) t;
              lf = line_lf input i (ltb-true end (length input) t);
            };
        done = λ f. ends at-end clipped-end (none_left f) (rw f) k.opened;
      })

    begins : {line out : List ℕ} {t : Feeding} → Takes input 0 line₀ line out₀ out 0 b t → SoFar line out t
    unfolding after
    begins k = taken k (record {
      within = omega arith;
      taken = omega arith;
      same_line = refl;
      kept = λ l. refl;
      is = refl;
      few = omega arith;
      put = none_put;
    })

    -- the answer is put to the line that waits
    module _
        {line out s o line' out' : List ℕ} {t r : Feeding} {j : ℕ} (so : Waiting line out t) (e : s ≡ take t.fed.begun.len line)
        (p : Puts out t.at (answer s) o j) (k : Nexts input line line' o out' t.fed j r) where
      abbrev i : ℕ
      i = t.fed.taken

      abbrev place : ℕ
      place = t.fed.put

      abbrev begun : Begun
      begun = t.fed.begun

      answered : Puts so.before place (line_answer answer begun.number (take begun.len line)) k.ended k.place
      answered = line_put answer begun.number (take begun.len line) so.opened (rw e at p) k.puts

      -- as the program's state has it
      answered-now : Puts so.before place (line_answer answer (now i).number (now i).begun) k.ended k.place
      answered-now = subst (λ (x : State). Puts so.before place (line_answer answer x.number x.begun) k.ended k.place) so.at.is answered

      all_put : Puts out₀ 0 (ended answer (now i)).written k.ended k.place
      all_put = joined so.at.put answered-now

      fits-now : has_room k.place (length k.ended) ≡ answer_fits answer (now i) (length out₀)
      fits-now =
          room_same all_put
          ∙ ap (λ (n : ℕ). has_room n (length out₀)) (length-append (now i).written (line_answer answer (now i).number (now i).begun))

      next : now (i + 1) ≡ ended answer (now i)
      next = after_lf answer (length line₀) (line_state b line₀ []) input i so.inside so.lf

      line-next : (l : List ℕ) → line_after line₀ b.len (take (i + 1) input ++ l) ≡ line_after line 0 l
      unfolding line_after
      line-next l =
          ap (λ (n : ℕ). line_after line₀ b.len (take n input ++ l)) (add-one i)
          ∙ ap (λ (x : List ℕ). line_after line₀ b.len (x ++ l)) (take-suc input i 0 so.inside)
          ∙ ap (line_after line₀ b.len) (append_assoc (take i input) (get_or input i 0 ∷ []) l)
          ∙ so.at.kept (get_or input i 0 ∷ l)
          ∙ ap (λ (n : ℕ). line_after line begun.len (n ∷ l)) so.lf

      left-next : answer_fits answer (now i) (length out₀) ≡ true → left i ≡ suc (left (i + 1))
      left-next h =
          taken_lf answer (length line₀) (length out₀) (now i) input i so.inside so.lf h
          ∙ ap (λ (x : State). suc (taken_of answer (length line₀) (length out₀) x (drop (suc i) input))) (sym next)
          ∙ ap (λ (n : ℕ). suc (taken_of answer (length line₀) (length out₀) (now (i + 1)) (drop n input))) (sym (add-one i))

      at_next : has_room k.place (length k.ended) ≡ true
          → At (i + 1) line k.ended k.place (record { number = (ended answer (line_state begun line [])).number; len = 0 })
      at_next h =
          let more : left i ≡ suc (left (i + 1)) = left-next (sym fits-now ∙ h) in
          let few : length (ended answer (now i)).written < max_counted =
          room_counted (length (ended answer (now i)).written) (length out₀) (sym (room_same all_put) ∙ h) in
          record {
            within = omega (arith, so.inside);
            taken = omega (arith, so.at.taken, more);
            same_line = so.at.same_line;
            kept = line-next;
            is =
                ap (λ (w : List ℕ). begun_line (ended answer (line_state begun line [])).number w []) (ap (λ (x : State). x.written) next)
                ∙ ap (λ (x : State). begun_line (ended answer x).number (ended answer (now i)).written []) so.at.is
                ∙ sym next;
            few = rw next few;
            put = rw next all_put;
          }

      full : has_room k.place (length k.ended) ≡ false → Feeds answer input line₀ out₀ b line k.ended t.fed
      full f =
          let none : left i ≡ 0 = taken_full answer (length line₀) (length out₀) (now i) input i so.inside so.lf (sym fits-now ∙ f) in
          ends so.at so.clipped none (rw (lt-ltb i (length input) so.inside)) answered-now

      next-taken : SoFar line' out' r
      next-taken =
          by_cases (has_room k.place (length k.ended))
          (λ h. taken (k.room h) (at_next h))
          (λ f. rw ((k.full f).0, (k.full f).1, (k.full f).2) (record { waits = λ z. absurd (false≢true z); done = λ _. full f }))

  -- ---- THE LOOP'S INVARIANT. The code's loop begins where the first line is taken already, so it goes from there: whatever the feed began with

  pub record Loop (input line₁ out₁ : List ℕ) (t₁ : Feeding) (line out : List ℕ) (t : Feeding) : Type 0 where
    since : (line₀ out₀ : List ℕ) (b : Begun) → SoFar input line₀ out₀ b line₁ out₁ t₁ → SoFar input line₀ out₀ b line out t

  pub loop_begins : {input line out : List ℕ} {t : Feeding} → Loop input line out t line out t
  loop_begins = record { since = λ line₀ out₀ b s. s }

  module _ {input line₁ out₁ line out : List ℕ} {t₁ t : Feeding} (l : Loop input line₁ out₁ t₁ line out t) where
    pub loop_goes : {s o line' out' : List ℕ} {r : Feeding} {j : ℕ} → t.waits ≡ true → s ≡ take t.fed.begun.len line → Puts out t.at (answer s) o j
        → Nexts input line line' o out' t.fed j r → Loop input line₁ out₁ t₁ line' out' r
    loop_goes w e p k = record { since = λ line₀ out₀ b s. next-taken input line₀ out₀ b ((l.since line₀ out₀ b s).waits w) e p k }

    -- each turn takes some of the input, or is the last
    pub loop_less : {o line' out' : List ℕ} {r : Feeding} {j : ℕ} → t.waits ≡ true → Nexts input line line' o out' t.fed j r
        → lines_left input r < lines_left input t
    loop_less w k =
        by_cases (has_room k.place (length k.ended))
        (λ h.
        let from = t.fed.taken + 1 in
        rw ((k.room h).is, w)
        (by_cases (ltb (lf_from input from) (length input))
        (λ e. rw e (omega (arith, ltb-true (lf_from input from) (length input) e)))
        (λ f. rw f (omega arith))))
        (λ f. rw ((k.full f).2, w) (omega arith))

    module _ {line₀ out₀ : List ℕ} {b : Begun} (k : Takes input 0 line₀ line₁ out₀ out₁ 0 b t₁) where
      now-so-far : SoFar input line₀ out₀ b line out t
      now-so-far = l.since line₀ out₀ b (begins input line₀ out₀ b k)

      pub loop-lf : t.waits ≡ true → t.fed.taken < length input
      loop-lf w = (now-so-far.waits w).inside

      -- the line that waits is the one begun after what was taken, and ends there
      pub loop-line : t.waits ≡ true
          → (take t.fed.begun.len line ≡ (after answer (length line₀) (line_state b line₀ []) (take t.fed.taken input)).begun)
          × (get_or input t.fed.taken 0 ≡ 10)
      loop-line w = (ap (λ (x : State). x.begun) (now-so-far.waits w).at.is, (now-so-far.waits w).lf)

      pub loop-ends : t.waits ≡ false → Feeds answer input line₀ out₀ b line out t.fed
      loop-ends f = now-so-far.done f
