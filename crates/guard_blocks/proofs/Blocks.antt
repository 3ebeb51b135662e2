-- A block by its rules (`Resolving`): what its numbers are resolved to stays the same, rule after rule; when no rule is left or no number is open, closing them gives
-- the block's numbers (`block_closed`).
use mathlib.Core.Path.{◌≡◌, refl, sym, ap, ◌∙◌}
use mathlib.Core.Logic.{◌⊎◌, ⊎_elim}
use mathlib.Core.Bool.{Bool, false}
use mathlib.Core.List.{List, [], ◌∷◌, ◌++◌, map}
use Prim.Native.Nat.{ℕ, ◌+◌, ◌<◌, ◌≤◌}
use native.Mathlib.Omega.{arith}
use lib.ListN.{length, take, drop, replicate, length-append, length-drop, length-replicate}
use Rattle.definitions.specs.declared.books.LoadedRule.{LoadedRule}
use Rattle.definitions.specs.declared.books.Rules.{Rules}
use Rattle.definitions.specs.declared.books.Answered.{Answered}
use Rattle.definitions.specs.Limits.{document_limits}
use Rattle.definitions.specs.Lists.{any?}
use Rattle.definitions.specs.Books.{Rule}
use Rattle.definitions.specs.LoadedBooks.{rule_at, rules_in}
use Rattle.definitions.specs.Blocks.{PacketRecord, records_up_to, action_number, block_numbers, block_answered}
use Rattle.rule_book.proofs.RulesFrom.{rules_from, rules_all}
use Rattle.guard_numbers.specs.OpenNumbers.{open_number, is_open, closed}
use Rattle.guard_packets.proofs.Records.{records_le, records_again}
use Rattle.guard_blocks.specs.Numbering.{renumbered, by_rule}
use Rattle.guard_blocks.proofs.Resolving.{resolved, resolved_in, resolved_on, resolved_out, resolved_all}

-- ---- how many packets there are

module _ (block out : List ℕ) {x : Answered} (e : x ≡ block_answered block (length out)) where
  count_is : x.packets ≡ length (records_up_to (length out) block)
  unfolding block_answered
  count_is = ap (λ (y : Answered). y.packets) e

  pub counted_room : x.packets ≤ length out
  counted_room = omega (arith, count_is, records_le (length out) block)

  records_are : records_up_to x.packets block ≡ records_up_to (length out) block
  records_are = ap (λ (n : ℕ). records_up_to n block) count_is ∙ records_again (length out) block

  pub counted_all_lem : length (records_up_to x.packets block) ≡ x.packets
  counted_all_lem = ap length records_are ∙ sym count_is

-- ---- the loop

pub record Resolving (book block : List ℕ) (rules : Rules) (packets : ℕ) (out₀ out : List ℕ) (i : ℕ) : Type 0 where
  pub same : length out ≡ length out₀
  pub answer : resolved (rules_from book rules i) (records_up_to packets block) out ≡ resolved (rules_from book rules 0) (records_up_to packets block) out₀

renumbered_length : (test : PacketRecord → Bool) (a : ℕ) (ks : List PacketRecord) (out : List ℕ) → length (renumbered test a ks out) ≡ length out
unfolding renumbered
renumbered_length test a [] out = refl
renumbered_length test a (k ∷ ks) [] = refl
renumbered_length test a (k ∷ ks) (x ∷ out) = omega (arith, renumbered_length test a ks out)

by_length : (ks : List PacketRecord) (r : Rule) (out : List ℕ) → length (by_rule document_limits ks r out) ≡ length out
unfolding by_rule
by_length ks r out = renumbered_length _ _ ks out

module _ {book block : List ℕ} {rules : Rules} {packets : ℕ} {out₀ out : List ℕ} {i : ℕ} (w : Resolving book block rules packets out₀ out i) where
  pub resolving_on : (d : LoadedRule) → rules_from book rules i ≡ rule_at book d ∷ rules_from book rules (i + 1)
      → action_number d.action + d.number < open_number
      → {next : List ℕ} → next ≡ by_rule document_limits (records_up_to packets block) (rule_at book d) out
      → Resolving book block rules packets out₀ next (i + 1)
  unfolding rule_at
  resolving_on d h b e =
      let r : Rule = rule_at book d in
      let ks : List PacketRecord = records_up_to packets block in
      record {
        same = ap length e ∙ by_length ks r out ∙ w.same;
        answer =
            ap (resolved (rules_from book rules (i + 1)) ks) e
            ∙ sym (resolved_on r (rules_from book rules (i + 1)) ks out b)
            ∙ ap (λ (rs : List Rule). resolved rs ks out) (sym h)
            ∙ w.answer;
      }

-- ---- the whole

module _ (block entry : List ℕ) {x : Answered} (e : x ≡ block_answered block (length entry)) {out₀ : List ℕ}
    (opened : out₀ ≡ replicate x.packets open_number ++ drop x.packets entry) where
  opened_length : length out₀ ≡ length entry
  opened_length =
      omega (
        arith,
        ap length opened,
        length-append (replicate x.packets open_number) (drop x.packets entry),
        length-replicate x.packets open_number,
        length-drop x.packets entry,
        counted_room block entry e,
      )

  module _ {book : List ℕ} {rules : Rules} {out : List ℕ} {i : ℕ} (w : Resolving book block rules x.packets out₀ out i) where
    pub whole_length : length out ≡ length entry
    whole_length = w.same ∙ opened_length

    pub still_room : x.packets ≤ length out
    still_room = omega (arith, whole_length, counted_room block entry e)

    -- what they are resolved to is the block's numbers
    resolved_whole : resolved (rules_from book rules i) (records_up_to x.packets block) out ≡ block_numbers document_limits (rules_in book rules) block entry
    unfolding block_numbers
    resolved_whole =
        let ks : List PacketRecord = records_up_to x.packets block in
        w.answer
        ∙ ap (λ (rs : List Rule). resolved rs ks out₀) (sym (rules_all book rules))
        ∙ ap (resolved (rules_in book rules) ks) opened
        ∙ ap (λ (n : ℕ). resolved (rules_in book rules) ks (replicate n open_number ++ drop x.packets entry)) (sym (counted_all_lem block entry e))
        ∙ resolved_in (rules_in book rules) ks (drop x.packets entry)
        ∙ rw (records_are block entry e, count_is block entry e)

    -- all packets have theirs: no rule is left, or no number is open
    pub block_closed : (rules_from book rules i ≡ []) ⊎ (any? is_open (take x.packets out) ≡ false)
        → map closed (take x.packets out) ++ drop x.packets out ≡ block_numbers document_limits (rules_in book rules) block entry
    block_closed h = closed_is ∙ resolved_whole
      where
        closed_is : map closed (take x.packets out) ++ drop x.packets out ≡ resolved (rules_from book rules i) (records_up_to x.packets block) out
        closed_is =
            let n = counted_all_lem block entry e in
            let room : length (records_up_to x.packets block) ≤ length out = omega (arith, n, still_room) in
            ap (λ (k : ℕ). map closed (take k out) ++ drop k out) (sym n)
            ∙ ⊎_elim
            (λ o. sym (ap (λ (rs : List Rule). resolved rs (records_up_to x.packets block) out) o
            ∙ resolved_out (records_up_to x.packets block) out room))
            (λ f. sym (resolved_all (rules_from book rules i) (records_up_to x.packets block) out room (rw n f)))
            h
