-- A line's check, refusal by refusal in their order: each test that the code makes decides the definition's.
use Rattle.std.specs.Prelude.{Option, Some, None, Ok, Err, ok_or}
use mathlib.Core.Path.{◌≡◌, refl, sym, ap, ◌∙◌}
use mathlib.Core.Bool.{true, false≢true}
use mathlib.Core.List.{List}
use Prim.Native.Nat.{ℕ, suc, ◌+◌, ◌-◌, ◌<◌, ◌≤◌}
use native.Mathlib.Omega.{arith}
use lib.ListN.{length, take, drop}
use borrow.Author.Tests.{lt-ltb, le-ltb, le-leb, lt-leb}
use Rattle.definitions.specs.declared.answers.Refusal.{Refusal}
use Rattle.definitions.specs.declared.answers.Refusal.TheVariants as refusal
use Rattle.definitions.specs.declared.answers.Reading.{Reading}
use Rattle.definitions.specs.declared.books.LoadedRule.{LoadedRule}
use Rattle.definitions.specs.Limits.{document_limits, max_rules}
use Rattle.definitions.specs.Reading.{read}
use Rattle.definitions.specs.Books.{is_rule, rule_number, rule_source, rule_of, line_check}
use Rattle.definitions.specs.LoadedBooks.{source_start, loaded_at}
use Rattle.line_parts.proofs.Results.{failed_test, parsed_test, parsed_value}
use Rattle.book_rules.specs.RuleLines.{parsed_rule}
use Rattle.book_laws.proofs.Sources.{source_within, source_at}
use Rattle.rule_book.specs.Lines.{checked_line}

-- the two answers for a line's form are apart
apart : (v : LoadedRule) → Some v ≡ None → ⊥
apart v e = false≢true cc

same : (v w : LoadedRule) → Some v ≡ Some w → v ≡ w
same v w e = cc

-- a line's form as the answer to it, with the refusal where it has none
pub formed : (x : Option LoadedRule) {v : LoadedRule} → ok_or x refusal.RuleForm ≡ Ok v → x ≡ Some v
formed None e = cc
formed (Some w) e = cc

pub unformed : (x : Option LoadedRule) {r : Refusal} → ok_or x refusal.RuleForm ≡ Err r → (x ≡ None) × (refusal.RuleForm ≡ r)
unformed None e = (refl, cc)
unformed (Some w) e = (cc, cc)

-- from a place up to so many bytes further, as a slice has it
pub part_long : (start len : ℕ) (l : List ℕ) → take (start + len - start) (drop start l) ≡ take len (drop start l)
part_long start len l = let z : start + len - start ≡ len = omega arith in ap (λ (n : ℕ). take n (drop start l)) z

module _ (n last : ℕ) (l : List ℕ) where
  pub line_over : max_rules ≤ n → Err refusal.RuleCount ≡ checked_line document_limits n last l
  unfolding checked_line line_check
  line_over h = rw (lt-ltb max_rules (suc n) (omega (arith, h)))

  module _ (few : n < max_rules) (x : Option LoadedRule) (e : x ≡ parsed_rule l) where
    pub other_form : x ≡ None → Err refusal.RuleForm ≡ checked_line document_limits n last l
    unfolding checked_line line_check parsed_rule
    other_form k = rw (le-ltb max_rules (suc n) (omega (arith, few)), failed_test Some None apart (is_rule l) (loaded_at 0 l) (sym e ∙ k))

    module _ (r : LoadedRule) (k : x ≡ Some r) where
      is-rule : (is_rule l ≡ true) × (r ≡ loaded_at 0 l)
      unfolding parsed_rule
      is-rule = (parsed_test Some None apart (is_rule l) (loaded_at 0 l) r (sym e ∙ k), sym (parsed_value Some None apart same (is_rule l) (loaded_at 0 l) r (sym e ∙ k)))

      -- its text lies in the line
      pub text-within : r.start + r.len ≤ length l
      unfolding loaded_at
      text-within = rw is-rule.1 (omega (arith, source_within l))

      pub text-is : take r.len (drop r.start l) ≡ rule_source l
      unfolding loaded_at
      text-is = let z : 0 + source_start l ≡ source_start l = omega arith in rw (is-rule.1, z) (source_at l)

      number_is : r.number ≡ rule_number l
      unfolding loaded_at rule_of
      number_is = rw is-rule.1

      pub not-rising : r.number ≤ last → Err refusal.RuleOrder ≡ checked_line document_limits n last l
      unfolding checked_line line_check
      not-rising h = rw (le-ltb max_rules (suc n) (omega (arith, few)), is-rule.0, le-leb (rule_number l) last (omega (arith, h, number_is)))

      module _ (rises : last < r.number) (y : Reading) {s : List ℕ} (f : y ≡ read document_limits s) (g : s ≡ take r.len (drop r.start l)) where
        outcome-is : y.outcome ≡ (read document_limits (rule_source l)).outcome
        outcome-is = ap (λ (z : Reading). z.outcome) (f ∙ ap (read document_limits) (g ∙ text-is))

        pub text-refused : (c : Refusal) (place : ℕ) → y.outcome ≡ Err (record { refusal = c; place = place }) → Err c ≡ checked_line document_limits n last l
        unfolding checked_line line_check
        text-refused c place q =
            rw (le-ltb max_rules (suc n) (omega (arith, few)), is-rule.0, lt-leb (rule_number l) last (omega (arith, rises, number_is)), sym outcome-is ∙ q)

        pub line-passed : y.outcome ≡ Ok tt → Ok r ≡ checked_line document_limits n last l
        unfolding checked_line line_check
        line-passed q =
            rw (le-ltb max_rules (suc n) (omega (arith, few)), is-rule.0, lt-leb (rule_number l) last (omega (arith, rises, number_is)), sym outcome-is ∙ q)
            (ap Ok is-rule.1)
