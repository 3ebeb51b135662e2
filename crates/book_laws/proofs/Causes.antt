-- NO NUMBER IS GIVEN FOR ANOTHER CAUSE: a book's judgement, and so a decision, has number 0, 1 to 12 or 50 to 53 (`judge_causes`, `decision_causes`). 50 has line 0,
-- every other refusal a line from 1 to 65 that the book has (`refused_line_lem`). Document 02, T-03.
use Rattle.std.specs.Prelude.{if◌then◌else◌, Result, Ok, Err, ℕ}
use mathlib.Core.Path.{◌≡◌, refl, ap, sym, ◌∙◌}
use mathlib.Core.Logic.{◌⊎◌, inl, inr}
use mathlib.Core.Bool.{Bool, true, false, not}
use mathlib.Core.List.{List, [], ◌∷◌}
use Prim.Native.Nat.{ℕ, suc, ◌+◌, ◌<◌, ◌≤◌}
use native.Mathlib.Omega.{arith}
use lib.ListN.{length}
use lib.Dec.{ltb, leb}
use borrow.Author.Tests.{ltb-false}
use Rattle.forms.proofs.Bools.{by_cases}
use Rattle.forms.proofs.Sound.{never}
use Rattle.definitions.specs.declared.packets.Direction.{Direction}
use Rattle.definitions.specs.declared.packets.FieldMap.{FieldMap}
use Rattle.definitions.specs.declared.answers.Refusal.{Refusal}
use Rattle.definitions.specs.declared.answers.Refusal.TheVariants as refusal
use Rattle.definitions.specs.declared.books.Decision.{Decision}
use Rattle.definitions.specs.declared.answers.BookRefusal.{BookRefusal}
use Rattle.definitions.specs.declared.answers.TextRefusal.{TextRefusal}
use Rattle.definitions.specs.Limits.{Limits, max_book, max_rules}
use Rattle.definitions.specs.Lists.{any?, all?}
use Rattle.definitions.specs.Refusals.{number_of, check_number, read_number}
use Rattle.definitions.specs.Reading.{read}
use Rattle.definitions.specs.Books.{Rule, book_lines, is_rule, rule_number, rule_source, rules_of, text_check, line_check, unless_line, judge_lines, judge}
use Rattle.definitions.specs.Decisions.{decides, decided as decidedBy, decided_if, decision}
use Rattle.laws.proofs.Checks.{among, among_more, CheckAmong, refuse_among, refuse_fine}
use Rattle.laws.proofs.Places.{read_causes}
use Rattle.laws.proofs.Causes.{read_causes_lem}

abbrev pub book_causes : List ℕ
book_causes = 0 ∷ 1 ∷ 2 ∷ 3 ∷ 4 ∷ 5 ∷ 6 ∷ 7 ∷ 8 ∷ 9 ∷ 10 ∷ 11 ∷ 12 ∷ 50 ∷ 51 ∷ 52 ∷ 53 ∷ []

-- the number of a judgement, and of a decision
abbrev pub judgement_number : Result ℕ BookRefusal → ℕ
judgement_number (Ok n) = 0
judgement_number (Err e) = number_of e.refusal

abbrev pub decision_refusal : Result Decision BookRefusal → ℕ
decision_refusal (Ok d) = 0
decision_refusal (Err e) = number_of e.refusal

text_number : (o : Result Unit TextRefusal) → check_number (text_check o) ≡ read_number o
text_number (Ok tt) = refl
text_number (Err e) = refl

none_among : among book_causes 0 ≡ true
unfolding any?
none_among = refl

line_among : (lim : Limits) (n last : ℕ) (l : List ℕ) → CheckAmong book_causes (line_check lim n last l)
unfolding line_check any? all?
line_among lim n last l =
    refuse_among book_causes (ltb max_rules n) refusal.RuleCount _ refl
    (refuse_among book_causes (not (is_rule l)) refusal.RuleForm _ refl
    (refuse_among book_causes (leb (rule_number l) last) refusal.RuleOrder _ refl
    (ap (among book_causes) (text_number (read lim (rule_source l)).outcome)
    ∙ among_more read_causes book_causes (read_number (read lim (rule_source l)).outcome) refl (read_causes_lem lim (rule_source l)))))

refused_at_lem : (c r : Refusal) (n line : ℕ)
    → ◌≡◌ {A = Result ℕ BookRefusal} (Err (record { refusal = c; line = n })) (Err (record { refusal = r; line = line })) → n ≡ line
refused_at_lem c r n line e =
    let z : ◌≡◌ {A = BookRefusal} (record { refusal = c; line = n }) (record { refusal = r; line = line }) = cc in ap (λ (x : BookRefusal). x.line) z

-- a line that passes is not the 65th
line_few : (lim : Limits) (n last : ℕ) (l : List ℕ) → line_check lim (suc n) last l ≡ Ok tt → suc n ≤ max_rules
unfolding line_check
line_few lim n last l e = ltb-false max_rules (suc n) (refuse_fine (ltb max_rules (suc n)) refusal.RuleCount _ e).0

unless_among : (d : Result Unit Refusal) (n : ℕ) (j : Result ℕ BookRefusal) → CheckAmong book_causes d → among book_causes (judgement_number j) ≡ true
    → among book_causes (judgement_number (unless_line d n j)) ≡ true
unless_among (Ok tt) n j h g = g
unless_among (Err r) n j h g = h

lines_among : (lim : Limits) (n last : ℕ) (ls : List (List ℕ)) → among book_causes (judgement_number (judge_lines lim n last ls)) ≡ true
unfolding judge_lines
lines_among lim n last [] = none_among
lines_among lim n last (l ∷ ls) =
    unless_among (line_check lim (suc n) last l) (suc n) (judge_lines lim (suc n) (rule_number l) ls) (line_among lim (suc n) last l)
    (lines_among lim (suc n) (rule_number l) ls)

module _ (lim : Limits) (book : List ℕ) where
  pub judge_causes : among book_causes (judgement_number (judge lim book)) ≡ true
  unfolding judge any?
  judge_causes =
      by_cases (ltb max_book (length book)) (λ t. rw t) (λ f. rw f (lines_among lim 0 0 (book_lines book)))

  -- rules refuse nothing
  rules_none : (p decoded : List ℕ) (dir : Direction) (m : FieldMap) (rs : List Rule) → decision_refusal (decidedBy lim p decoded dir m rs) ≡ 0
  unfolding decidedBy
  rules_none p decoded dir m [] = refl
  rules_none p decoded dir m (r ∷ rs) =
      by_cases (decides lim p decoded dir m r) (λ t. rw t) (λ f. rw f (rules_none p decoded dir m rs))

  pub decision_causes : (p decoded : List ℕ) (dir : Direction) (m : FieldMap) → among book_causes (decision_refusal (decision lim p decoded dir m book)) ≡ true
  unfolding decision
  decision_causes p decoded dir m = go (judge lim book) judge_causes
    where
      go : (j : Result ℕ BookRefusal) → among book_causes (judgement_number j) ≡ true
          → among book_causes (decision_refusal (decided_if lim p decoded dir m j (rules_of book))) ≡ true
      go (Ok n) h = ap (among book_causes) (rules_none p decoded dir m (rules_of book)) ∙ none_among
      go (Err e) h = h

-- ---- lines

-- a refusal of some lines, of which n stand before
lines_within : (lim : Limits) (n last : ℕ) (ls : List (List ℕ)) (r : Refusal) (line : ℕ) → n ≤ max_rules
    → judge_lines lim n last ls ≡ Err (record { refusal = r; line = line })
    → (n < line) × (line ≤ n + length ls) × (line ≤ suc max_rules)
unfolding judge_lines
lines_within lim n last [] r line few e = never (cc)
lines_within lim n last (l ∷ ls) r line few e =
    go (line_check lim (suc n) last l) refl e (λ m k. lines_within lim (suc n) (rule_number l) ls r line m k)
  where
    go : (d : Result Unit Refusal) → line_check lim (suc n) last l ≡ d
        → unless_line d (suc n) (judge_lines lim (suc n) (rule_number l) ls) ≡ Err (record { refusal = r; line = line })
        → (suc n ≤ max_rules → judge_lines lim (suc n) (rule_number l) ls ≡ Err (record { refusal = r; line = line })
        → (suc n < line) × (line ≤ suc n + length ls) × (line ≤ suc max_rules))
        → (n < line) × (line ≤ n + length (l ∷ ls)) × (line ≤ suc max_rules)
    go (Ok tt) q k rest =
        let w = rest (line_few lim n last l q) k in
        (omega (arith, w.0), omega (arith, w.1), w.2)
    go (Err c) q k rest =
        let z : suc n ≡ line = refused_at_lem c r (suc n) line k in
        (omega (arith, z), omega (arith, z), omega (arith, z, few))

pub refused_line_lem : (lim : Limits) (book : List ℕ) (r : Refusal) (line : ℕ) → judge lim book ≡ Err (record { refusal = r; line = line })
    → ((r ≡ refusal.BookLength) × (line ≡ 0)) ⊎ ((0 < line) × (line ≤ length (book_lines book)) × (line ≤ suc max_rules))
unfolding judge
refused_line_lem lim book r line e = go (ltb max_book (length book)) e
  where
    go : (b : Bool)
        → (if b then Err (record { refusal = refusal.BookLength; line = 0 }) else judge_lines lim 0 0 (book_lines book)) ≡ Err (record { refusal = r; line = line })
        → ((r ≡ refusal.BookLength) × (line ≡ 0)) ⊎ ((0 < line) × (line ≤ length (book_lines book)) × (line ≤ suc max_rules))
    go true k =
        let z : ◌≡◌ {A = BookRefusal} (record { refusal = refusal.BookLength; line = 0 }) (record { refusal = r; line = line }) = cc in
        inl (sym (ap (λ (x : BookRefusal). x.refusal) z), sym (ap (λ (x : BookRefusal). x.line) z))
    go false k =
        let w = lines_within lim 0 0 (book_lines book) r line (omega arith) k in
        inr (w.0, omega (arith, w.1), w.2)
