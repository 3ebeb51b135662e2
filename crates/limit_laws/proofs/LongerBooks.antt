-- BOOKS UNDER TWO LIMITS: one that is accepted under the first is accepted under the second, loaded alike, and decides alike; and one that the second accepts has,
-- under the first, its first longer text refused with 1. A line's check goes by the limits only through what its text reads as.
use Rattle.std.specs.Prelude.{Result, Ok, Err, ℕ}
use mathlib.Core.Path.{◌≡◌, refl, sym, ap, ◌∙◌, fun_ext}
use mathlib.Core.Logic.{⊎_elim}
use mathlib.Core.Bool.{true, not, ◌&&◌}
use mathlib.Core.List.Memᴰ.{head as here}
use mathlib.Core.List.Memᴰ.{not-nil}
use mathlib.Core.List.Memᴰ.{tail as there}
use mathlib.Core.List.{List, [], ◌∷◌, ◌++◌, map, Memᴰ as Mem}
use mathlib.Core.List.Memᴰ.{cases_cons}
use Prim.Native.Nat.{ℕ, suc, ◌≤◌}
use lib.ListN.{length, drop}
use lib.Dec.{ltb, leb}
use borrow.Author.Tests.{ltb-true, ltb-false}
use Rattle.forms.proofs.Bools.{by_cases}
use Rattle.definitions.specs.declared.packets.Direction.{Direction}
use Rattle.definitions.specs.declared.packets.FieldMap.{FieldMap}
use Rattle.definitions.specs.declared.answers.Refusal.TheVariants as refusal
use Rattle.definitions.specs.declared.answers.Reading.{Reading}
use Rattle.definitions.specs.declared.answers.Verdict.{Verdict}
use Rattle.definitions.specs.declared.answers.BookRefusal.{BookRefusal}
use Rattle.definitions.specs.declared.answers.Refusal.{Refusal}
use Rattle.definitions.specs.declared.answers.TextRefusal.{TextRefusal}
use Rattle.definitions.specs.Limits.{Limits, max_rules}
use Rattle.definitions.specs.Refusals.{refuse_if}
use Rattle.definitions.specs.Reading.{read}
use Rattle.definitions.specs.Answers.{verdict_answer}
use Rattle.definitions.specs.Books.{Rule, book_lines, is_rule, rule_number, rule_source, rule_of, rules_of, text_check, line_check, judge_lines, judge}
use Rattle.definitions.specs.Decisions.{is_on, is_met, decides, decided, decision}
use Rattle.definitions.specs.LoadedBooks.{loaded_from, loaded_if, loaded}
use Rattle.definitions.specs.Blocks.{PacketRecord, records_up_to, decision_number, record_number, block_numbers}
use Rattle.laws.proofs.Checks.{no_fine, refuse_fine}
use Rattle.laws.proofs.Refusing.{limit_kept}
use Rattle.book_laws.proofs.Rising.{passed_line, accepted_book}
use Rattle.book_laws.proofs.Deciding.{by_rules}
use Rattle.limit_laws.specs.LongerTexts.{Raised, widened_reading, judged_below}
use Rattle.limit_laws.proofs.WidenedReading.{read_widened}
use Rattle.limit_laws.proofs.WidenedAnswers.{verdict_widened}
use Rattle.limit_laws.proofs.WidenedWriting.{accepted_formed}

-- a line's check, by what its text reads as
abbrev line_by : ℕ → ℕ → List ℕ → Result Unit Refusal → Result Unit Refusal
line_by n last l c =
    refuse_if (ltb max_rules n) refusal.RuleCount (refuse_if (not (is_rule l)) refusal.RuleForm (refuse_if (leb (rule_number l) last) refusal.RuleOrder c))

line_checked : (lim : Limits) (n last : ℕ) (l : List ℕ) → line_check lim n last l ≡ line_by n last l (text_check (read lim (rule_source l)).outcome)
unfolding line_check
line_checked lim n last l = refl

-- a line that passes is refused by its text alone
passes_by : (n last : ℕ) (l : List ℕ) (c : Result Unit Refusal) → line_by n last l c ≡ Ok tt
    → (c ≡ Ok tt) × ((d : Result Unit Refusal) → line_by n last l d ≡ d)
passes_by n last l c e =
    let x = refuse_fine (ltb max_rules n) refusal.RuleCount _ e in
    let y = refuse_fine (not (is_rule l)) refusal.RuleForm _ x.1 in
    let z = refuse_fine (leb (rule_number l) last) refusal.RuleOrder _ y.1 in
    (z.1, λ d. rw (x.0, y.0, z.0))

text_accepted : (o : Result Unit TextRefusal) → text_check o ≡ Ok tt → o ≡ Ok tt
text_accepted (Ok tt) e = refl
text_accepted (Err e') e = no_fine e'.refusal e

module _ (a b : Limits) (h : Raised a b) where
  -- ---- a text

  -- the rule's text is read under a
  pub record IsRead (r : Rule) : Type 0 where
    pub short : length r.source ≤ a.text
    pub accepted : (read a r.source).outcome ≡ Ok tt

  longer_refused : (s : List ℕ) → ltb a.text (length s) ≡ true → text_check (read a s).outcome ≡ Err refusal.TextLength
  longer_refused s t = ap (λ (r : Reading). text_check r.outcome) (limit_kept a s (ltb-true a.text (length s) t))

  accepted_short_text : (s : List ℕ) → (read a s).outcome ≡ Ok tt → length s ≤ a.text
  accepted_short_text s e =
      by_cases (ltb a.text (length s))
      (λ t. no_fine refusal.TextLength (sym (longer_refused s t) ∙ ap text_check e))
      (λ f. ltb-false a.text (length s) f)

  outcome_same : (s : List ℕ) → length s ≤ a.text → (read b s).outcome ≡ (read a s).outcome
  unfolding widened_reading
  outcome_same s n = ap (λ (r : Reading). r.outcome) (read_widened a b h s n)

  -- ---- a line, and lines

  line_same : (n last : ℕ) (l : List ℕ) → length (rule_source l) ≤ a.text → line_check b n last l ≡ line_check a n last l
  line_same n last l short =
      line_checked b n last l ∙ ap (λ (o : Result Unit TextRefusal). line_by n last l (text_check o)) (outcome_same (rule_source l) short)
      ∙ sym (line_checked a n last l)

  line_read : (n last : ℕ) (l : List ℕ) → line_check a n last l ≡ Ok tt → IsRead (rule_of l)
  unfolding rule_of
  line_read n last l e =
      let c = (passes_by n last l (text_check (read a (rule_source l)).outcome) (sym (line_checked a n last l) ∙ e)).0 in
      let o = text_accepted (read a (rule_source l)).outcome c in
      record { short = accepted_short_text (rule_source l) o; accepted = o }

  lines_accepted : (n last : ℕ) (ls : List (List ℕ)) (k : ℕ) → judge_lines a n last ls ≡ Ok k → judge_lines b n last ls ≡ Ok k
  unfolding judge_lines rule_of
  lines_accepted n last [] k e = e
  lines_accepted n last (l ∷ ls) k e =
      let w = passed_line (line_check a (suc n) last l) (suc n) k _ e in
      let c : line_check b (suc n) last l ≡ Ok tt = line_same (suc n) last l (line_read (suc n) last l w.0).short ∙ w.0 in
      rw c (lines_accepted (suc n) (rule_number l) ls k w.1)

  lines_read : (n last : ℕ) (ls : List (List ℕ)) (k : ℕ) → judge_lines a n last ls ≡ Ok k → (r : Rule) → Mem r (map rule_of ls) → IsRead r
  unfolding judge_lines
  lines_read n last [] k e r m = absurd (not-nil m)
  lines_read n last (l ∷ ls) k e r m =
      let w = passed_line (line_check a (suc n) last l) (suc n) k _ e in
      ⊎_elim (λ p. rw p (line_read (suc n) last l w.0)) (λ q. lines_read (suc n) (rule_number l) ls k w.1 r q) (cases_cons m)

  -- the lines that b accepts, under a
  lines_formerly : (n last : ℕ) (ls : List (List ℕ)) (k : ℕ) → judge_lines b n last ls ≡ Ok k
      → judge_lines a n last ls ≡ judged_below a.text n (map rule_of ls)
  unfolding judge_lines judged_below rule_of
  lines_formerly n last [] k e = refl
  lines_formerly n last (l ∷ ls) k e =
      let w = passed_line (line_check b (suc n) last l) (suc n) k _ e in
      let p = passes_by (suc n) last l (text_check (read b (rule_source l)).outcome) (sym (line_checked b (suc n) last l) ∙ w.0) in
      by_cases (ltb a.text (length (rule_source l)))
      (λ t. let c : line_check a (suc n) last l ≡ Err refusal.TextLength = line_checked a (suc n) last l ∙ p.1 _ ∙ longer_refused (rule_source l) t in
      rw (t, c))
      (λ f. let c : line_check a (suc n) last l ≡ Ok tt =
      sym (line_same (suc n) last l (ltb-false a.text (length (rule_source l)) f)) ∙ w.0 in
      rw (f, c) (lines_formerly (suc n) (rule_number l) ls k w.1))

  -- ---- a book

  pub book_accepted : (book : List ℕ) (n : ℕ) → judge a book ≡ Ok n → judge b book ≡ Ok n
  unfolding judge
  book_accepted book n e =
      rw (accepted_book a book n e).0 (lines_accepted 0 0 (book_lines book) n (accepted_book a book n e).1)

  pub rules_read : (book : List ℕ) (n : ℕ) → judge a book ≡ Ok n → (r : Rule) → Mem r (rules_of book) → IsRead r
  unfolding rules_of
  rules_read book n e = lines_read 0 0 (book_lines book) n (accepted_book a book n e).1

  pub book_loaded : (book : List ℕ) (n : ℕ) → judge a book ≡ Ok n → loaded b book ≡ loaded a book
  unfolding loaded
  book_loaded book n e = ap (λ (j : Result ℕ BookRefusal). loaded_if j (loaded_from 0 (book_lines book))) (book_accepted book n e ∙ sym e)

  pub book_formerly : (book : List ℕ) (n : ℕ) → judge b book ≡ Ok n → judge a book ≡ judged_below a.text 0 (rules_of book)
  unfolding judge rules_of
  book_formerly book n e =
      rw (accepted_book b book n e).0 (lines_formerly 0 0 (book_lines book) n (accepted_book b book n e).1)

  -- ---- a decision

  module _ (p decoded : List ℕ) (dir : Direction) (m : FieldMap) where
    verdict_same : (r : Rule) → IsRead r
        → verdict_answer (read b r.source).table p decoded dir m ≡ verdict_answer (read a r.source).table p decoded dir m
    unfolding widened_reading
    verdict_same r k =
        ap (λ (x : Reading). verdict_answer x.table p decoded dir m) (read_widened a b h r.source k.short)
        ∙ verdict_widened b.room (read a r.source).table (accepted_formed a b h r.source k.accepted) p decoded dir m

    decides_same : (r : Rule) → IsRead r → decides b p decoded dir m r ≡ decides a p decoded dir m r
    unfolding decides
    decides_same r k = ap (λ (v : Result Verdict Refusal). is_on r.state && is_met v) (verdict_same r k)

    decided_same : (rs : List Rule) → ((r : Rule) → Mem r rs → IsRead r) → decided b p decoded dir m rs ≡ decided a p decoded dir m rs
    unfolding decided
    decided_same [] k = refl
    decided_same (r ∷ rs) k = rw (decides_same r (k r (here refl)), decided_same rs (λ s n. k s (there n)))

  module _ (book : List ℕ) (n : ℕ) (e : judge a book ≡ Ok n) where
    pub book_decides : (p decoded : List ℕ) (dir : Direction) (m : FieldMap) → decision b p decoded dir m book ≡ decision a p decoded dir m book
    book_decides p decoded dir m =
        by_rules b p decoded dir m book n (book_accepted book n e)
        ∙ (decided_same p decoded dir m (rules_of book) (rules_read book n e) ∙ sym (by_rules a p decoded dir m book n e))

    pub blocks_decided : (block out : List ℕ) → block_numbers b (rules_of book) block out ≡ block_numbers a (rules_of book) block out
    unfolding block_numbers record_number
    blocks_decided block out =
        ap (λ (f : PacketRecord → ℕ). map f (records_up_to (length out) block) ++ drop (length (records_up_to (length out) block)) out)
        (fun_ext (λ k. ap decision_number (decided_same k.packet k.decoded k.direction k.fields (rules_of book) (rules_read book n e))))
