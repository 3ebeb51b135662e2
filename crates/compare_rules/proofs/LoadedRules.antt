-- THE RULES OF A LOADED BOOK, READ: the one at a place, and those after it; none past the last. The table of a rule is what is read at its place.
use Rattle.std.specs.Prelude.{Ok}
use mathlib.Core.Path.{◌≡◌, sym, ap, subst, ◌∙◌}
use mathlib.Core.Logic.{◌⊎◌, inl, inr}
use mathlib.Core.Bool.{Bool, not}
use mathlib.Core.List.{List, [], ◌∷◌, map}
use Prim.Native.Nat.{ℕ, ◌+◌, ◌<◌, ◌≤◌}
use native.Mathlib.Omega.{arith}
use lib.Dec.{leb}
use lib.ListN.{length, get_or, take, drop}
use borrow.Author.Tests.{leb-true, leb-false}
use Rattle.forms.proofs.Bools.{by_cases}
use Rattle.definitions.specs.declared.answers.Reading.{Reading}
use Rattle.definitions.specs.declared.books.LoadedRule.{LoadedRule}
use Rattle.definitions.specs.declared.books.Rules.{Rules}
use Rattle.definitions.specs.Limits.{document_limits, max_rules}
use Rattle.definitions.specs.Reading.{read}
use Rattle.definitions.specs.Books.{judge}
use Rattle.definitions.specs.LoadedBooks.{loaded}
use Rattle.write_bytes.specs.Clipped.{at_most}
use Rattle.book_laws.proofs.Loaded.{loaded_rules}
use Rattle.rule_book.proofs.RulesFrom.{rules_all, rules_here, rules_out, source_read}
use Rattle.table_equality.specs.SameTables.{same_table}
use Rattle.compare_laws.specs.Comparisons.{ReadRule, read_rule, read_rules, same_state, same_action, differing, differences, changed_line, both_line}
use Rattle.compare_rules.specs.LoadedRules.{read_at, read_from}

-- a place before both ends, and one past either
below_both : (i n most : ℕ) → i < at_most n most → (i < n) × (i < most)
unfolding at_most
below_both i n most h =
    by_cases (leb n most)
    (λ t. let g : i < n = rw t at h in (g, omega (arith, g, leb-true n most t)))
    (λ f. let g : i < most = rw f at h in (omega (arith, g, leb-false n most f), g))

past_either : (i n most : ℕ) → at_most n most ≤ i → (n ≤ i) ⊎ (most ≤ i)
unfolding at_most
past_either i n most h = by_cases (leb n most) (λ t. let g : n ≤ i = rw t at h in inl g) (λ f. let g : most ≤ i = rw f at h in inr g)

-- n rules of an array of 64 are in use
pub record InUse (rs : Rules) (n : ℕ) : Type 0 where
  pub counted : n ≡ at_most rs.count max_rules
  pub long : length rs.list ≡ max_rules

module _ {rs : Rules} {n : ℕ} (u : InUse rs n) where
  pub in_room : (i : ℕ) → i < n → i < max_rules
  in_room i h = (below_both i rs.count max_rules (subst (λ (k : ℕ). i < k) u.counted h)).1

  module _ (book : List ℕ) (i : ℕ) where
    pub read_next : (d : LoadedRule) → i < n → read_from book rs i ≡ read_at book (get_or rs.list i d) ∷ read_from book rs (i + 1)
    read_next d h =
        let g = below_both i rs.count max_rules (subst (λ (k : ℕ). i < k) u.counted h) in
        ap (map (read_rule document_limits)) (rules_here book rs i d g.0 (omega (arith, u.long, g.1)))

    pub read_end : n ≤ i → read_from book rs i ≡ []
    read_end h =
        let g = past_either i rs.count max_rules (subst (λ (k : ℕ). k ≤ i) u.counted h) in
        ap (map (read_rule document_limits)) (rules_out book rs i (subst (λ (k : ℕ). (rs.count ≤ i) ⊎ (k ≤ i)) (sym u.long) g))

-- those of an accepted book
pub loaded_read : (book : List ℕ) (n : ℕ) → judge document_limits book ≡ Ok n
    → read_from book (loaded document_limits book).rules 0 ≡ read_rules document_limits book
unfolding read_rules
loaded_read book n e =
    ap (map (read_rule document_limits)) (sym (rules_all book (loaded document_limits book).rules) ∙ loaded_rules document_limits book n e)

-- what is read at a rule's place has its table
pub table_read : (book : List ℕ) (r : LoadedRule) {x : Reading} {s : List ℕ} → x ≡ read document_limits s → s ≡ take r.len (drop r.start book)
    → x.table ≡ (read_at book r).table
unfolding read_rule
table_read book r e k = ap (λ (y : Reading). y.table) (source_read book r e k)

-- the line of two rules, by what was found to differ
pub both_by : (a b : ReadRule) {s c t : Bool} → s ≡ not (same_state a.state b.state) → c ≡ not (same_action a.action b.action)
    → t ≡ not (same_table a.table b.table) → both_line a b ≡ changed_line a.number (differing s c t)
unfolding both_line differences
both_by a b p q r = sym (rw (p, q, r))
