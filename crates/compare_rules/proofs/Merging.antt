-- TWO LOADED BOOKS, FROM A PLACE ON IN EACH: what is left to be put for their rules, line by line. Each turn puts the line of the lower number, and goes on
-- after it.
use mathlib.Core.Path.{◌≡◌}
use mathlib.Core.List.{List, [], ◌∷◌, ◌++◌}
use Prim.Native.Nat.{ℕ, ◌+◌, ◌<◌, ◌≤◌}
use lib.ListN.{get_or}
use Rattle.forms.specs.Bytes.{text}
use Rattle.definitions.specs.declared.books.LoadedRule.{LoadedRule}
use Rattle.definitions.specs.declared.books.Rules.{Rules}
use Rattle.definitions.specs.LoadedBooks.{rule_at}
use Rattle.write_bytes.specs.Puts.{Puts}
use Rattle.compare_laws.specs.Comparisons.{ReadRule, read_rule, number_line, new_line, new_lines, old_line, both_line, rules_output}
use Rattle.compare_laws.proofs.Merging.{old_first, new_first, both_first}
use Rattle.compare_rules.specs.LoadedRules.{read_at, read_from}
use Rattle.compare_rules.proofs.LoadedRules.{InUse, read_next, read_end}
use Rattle.compare_rules.proofs.Rest.{Still, still_on, still_none, still_last}

-- ---- rules of the second book alone

news_here : (b : ReadRule) {l ys : List ReadRule} → l ≡ b ∷ ys → new_lines l ≡ new_line b ++ new_lines ys
unfolding new_lines
news_here b e = rw e

news_out : {l : List ReadRule} → l ≡ [] → new_lines l ≡ []
unfolding new_lines
news_out e = rw e

pub record Ending (second : List ℕ) (b : Rules) (m from : ℕ) (out₀ : List ℕ) (at₀ : ℕ) (out : List ℕ) (next j : ℕ) : Type 0 where
  pub used : InUse b m
  pub left : Still out₀ at₀ (new_lines (read_from second b from)) out next (new_lines (read_from second b j))

module _ {second : List ℕ} {b : Rules} {m from : ℕ} {out₀ : List ℕ} {at₀ : ℕ} {out : List ℕ} {next j : ℕ}
    (w : Ending second b m from out₀ at₀ out next j) where
  pub ending_on : (d : LoadedRule) → j < m → {o : List ℕ} {k : ℕ} → Puts out next (number_line (text "new\t") (get_or b.list j d).number) o k
      → Ending second b m from out₀ at₀ o k (j + 1)
  unfolding read_rule rule_at
  ending_on d h p =
      record { used = w.used; left = still_on w.left (news_here (read_at second (get_or b.list j d)) (read_next w.used second j d h)) p }

  pub ended : m ≤ j → Puts out₀ at₀ (new_lines (read_from second b from)) out next
  ended h = still_none w.left (news_out (read_end w.used second j h))

-- ---- rules of both

module _ (xs ys : List ReadRule) where
  no_first : xs ≡ [] → rules_output xs ys ≡ new_lines ys
  unfolding rules_output
  no_first e = rw e

  module _ (a : ReadRule) {xs' : List ReadRule} (e : xs ≡ a ∷ xs') where
    old_last : ys ≡ [] → rules_output xs ys ≡ old_line a ++ rules_output xs' ys
    old_last f = rw (e, f) (old_first a xs' [] tt)

    module _ (b : ReadRule) {ys' : List ReadRule} (f : ys ≡ b ∷ ys') where
      old-here : a.number < b.number → rules_output xs ys ≡ old_line a ++ rules_output xs' ys
      old-here h = rw (e, f) (old_first a xs' (b ∷ ys') h)

      new-here : b.number < a.number → rules_output xs ys ≡ new_line b ++ rules_output xs ys'
      new-here h = rw (e, f) (new_first (a ∷ xs') b ys' h)

      both-here : a.number ≡ b.number → rules_output xs ys ≡ both_line a b ++ rules_output xs' ys'
      both-here h = rw (e, f) (both_first a b xs' ys' h)

module _ (first : List ℕ) (a : Rules) (n : ℕ) (second : List ℕ) (b : Rules) (m : ℕ) (out₀ : List ℕ) (at₀ : ℕ) where
  pub record Merging (out : List ℕ) (next i j : ℕ) : Type 0 where
    pub of_first : InUse a n
    pub of_second : InUse b m
    pub left : Still out₀ at₀ (rules_output (read_from first a 0) (read_from second b 0)) out next (rules_output (read_from first a i) (read_from second b j))

  module _ {out : List ℕ} {next i j : ℕ} (w : Merging out next i j) where
    abbrev xs : List ReadRule
    xs = read_from first a i

    abbrev ys : List ReadRule
    ys = read_from second b j

    -- no rule of the first is left
    pub merged : n ≤ i → {o : List ℕ} {k : ℕ} → Puts out next (new_lines ys) o k
        → Puts out₀ at₀ (rules_output (read_from first a 0) (read_from second b 0)) o k
    merged h p = still_last w.left (no_first xs ys (read_end w.of_first first i h)) p

    module _ (d : LoadedRule) (h : i < n) where
      abbrev x : LoadedRule
      x = get_or a.list i d

      pub old-alone : m ≤ j → {o : List ℕ} {k : ℕ} → Puts out next (number_line (text "old\t") x.number) o k → Merging o k (i + 1) j
      unfolding read_rule rule_at
      old-alone g p = record {
        of_first = w.of_first;
        of_second = w.of_second;
        left = still_on w.left (old_last xs ys (read_at first x) (read_next w.of_first first i d h) (read_end w.of_second second j g)) p;
      }

      module _ (c : LoadedRule) (g : j < m) where
        abbrev y : LoadedRule
        y = get_or b.list j c

        pub old-on : x.number < y.number → {o : List ℕ} {k : ℕ} → Puts out next (number_line (text "old\t") x.number) o k → Merging o k (i + 1) j
        unfolding read_rule rule_at
        old-on l p = record {
          of_first = w.of_first;
          of_second = w.of_second;
          left =
              still_on w.left
              (old-here xs ys (read_at first x) (read_next w.of_first first i d h) (read_at second y) (read_next w.of_second second j c g) l)
              p;
        }

        pub new-on : y.number < x.number → {o : List ℕ} {k : ℕ} → Puts out next (number_line (text "new\t") y.number) o k → Merging o k i (j + 1)
        unfolding read_rule rule_at
        new-on l p = record {
          of_first = w.of_first;
          of_second = w.of_second;
          left =
              still_on w.left
              (new-here xs ys (read_at first x) (read_next w.of_first first i d h) (read_at second y) (read_next w.of_second second j c g) l)
              p;
        }

        pub both-on : x.number ≡ y.number → {o : List ℕ} {k : ℕ} → Puts out next (both_line (read_at first x) (read_at second y)) o k
            → Merging o k (i + 1) (j + 1)
        unfolding read_rule rule_at
        both-on e p = record {
          of_first = w.of_first;
          of_second = w.of_second;
          left =
              still_on w.left
              (both-here xs ys (read_at first x) (read_next w.of_first first i d h) (read_at second y) (read_next w.of_second second j c g) e)
              p;
        }
