-- The numbers of an accepted book's rules rise from 1 on (`rules_rise`): each line's is compared with the one before.
use Rattle.std.specs.Prelude.{if◌then◌else◌, Result, Ok, Err, ℕ}
use mathlib.Core.Path.{◌≡◌, refl}
use mathlib.Core.Logic.{⊎_elim}
use mathlib.Core.Bool.{Bool, true, false, not}
use mathlib.Core.List.Memᴰ.{cases_cons}
use mathlib.Core.List.Memᴰ.{not-nil}
use mathlib.Core.List.{List, [], ◌∷◌, map, Memᴰ as Mem}
use Prim.Native.Nat.{ℕ, suc, ◌<◌}
use native.Mathlib.Omega.{arith}
use lib.ListN.{length}
use lib.Dec.{ltb, leb}
use borrow.Author.Tests.{leb-false}
use Rattle.forms.proofs.Sound.{never}
use Rattle.definitions.specs.declared.answers.Refusal.{Refusal}
use Rattle.definitions.specs.declared.answers.Refusal.TheVariants as refusal
use Rattle.definitions.specs.declared.answers.BookRefusal.{BookRefusal}
use Rattle.definitions.specs.Limits.{Limits, max_book, max_rules}
use Rattle.definitions.specs.Books.{Rule, book_lines, is_rule, rule_number, rule_of, rules_of, line_check, unless_line, judge_lines, judge}
use Rattle.laws.proofs.Checks.{refuse_fine}

-- each number is larger than the one before it
unfoldable pub Rises : ℕ → List Rule → Type 0
Rises last [] = Unit {0}
Rises last (r ∷ rs) = (last < r.number) × Rises r.number rs

-- so every number is larger than what came before
pub rises_over : (last : ℕ) (rs : List Rule) → Rises last rs → (r : Rule) → Mem r rs → last < r.number
unfolding Rises
rises_over last [] h r m = absurd (not-nil m)
rises_over last (x ∷ rs) h r m =
    ⊎_elim
    (λ e. rw e h.0)
    (λ n. omega (arith, h.0, rises_over x.number rs h.1 r n))
    (cases_cons m)

pub passed_line : (d : Result Unit Refusal) (n k : ℕ) (j : Result ℕ BookRefusal) → unless_line d n j ≡ Ok k → (d ≡ Ok tt) × (j ≡ Ok k)
passed_line (Ok tt) n k j e = (refl, e)
passed_line (Err r) n k j e = never (cc)

module _ (lim : Limits) where
  -- the number of a line that passes is larger
  line_rises : (n last : ℕ) (l : List ℕ) → line_check lim n last l ≡ Ok tt → last < rule_number l
  unfolding line_check
  line_rises n last l e =
      let a = (refuse_fine (ltb max_rules n) refusal.RuleCount _ e).1 in
      let b = (refuse_fine (not (is_rule l)) refusal.RuleForm _ a).1 in
      leb-false (rule_number l) last (refuse_fine (leb (rule_number l) last) refusal.RuleOrder _ b).0

  lines_rise : (n last : ℕ) (ls : List (List ℕ)) (k : ℕ) → judge_lines lim n last ls ≡ Ok k → Rises last (map rule_of ls)
  unfolding judge_lines Rises rule_of
  lines_rise n last [] k e = tt
  lines_rise n last (l ∷ ls) k e =
      let w = passed_line (line_check lim (suc n) last l) (suc n) k _ e in
      (line_rises (suc n) last l w.0, lines_rise (suc n) (rule_number l) ls k w.1)

  -- an accepted book is not too long, and each of its lines passes
  pub accepted_book : (book : List ℕ) (n : ℕ) → judge lim book ≡ Ok n
      → (ltb max_book (length book) ≡ false) × (judge_lines lim 0 0 (book_lines book) ≡ Ok n)
  unfolding judge
  accepted_book book n e = go (ltb max_book (length book)) e
    where
      go : (b : Bool) → (if b then Err (record { refusal = refusal.BookLength; line = 0 }) else judge_lines lim 0 0 (book_lines book)) ≡ Ok n
          → (b ≡ false) × (judge_lines lim 0 0 (book_lines book) ≡ Ok n)
      go true h = never (cc)
      go false h = (refl, h)

  pub rules_rise : (book : List ℕ) (n : ℕ) → judge lim book ≡ Ok n → Rises 0 (rules_of book)
  unfolding rules_of
  rules_rise book n e = lines_rise 0 0 (book_lines book) n (accepted_book book n e).1
