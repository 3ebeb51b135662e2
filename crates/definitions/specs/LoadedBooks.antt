-- A LOADED BOOK: what is kept of a judged book, so that it is not judged again for each packet. A rule's text stays where it stands in the book. Document 02, T-03.
use Rattle.std.specs.Prelude.{ℕ, ◌+◌, ◌-◌, List, [], ◌∷◌, map, length, take, drop, Result, Ok, Err}
use Rattle.definitions.specs.declared.books.State.TheVariants as state
use Rattle.definitions.specs.declared.books.Action.TheVariants as action
use Rattle.definitions.specs.declared.books.LoadedRule.{LoadedRule}
use Rattle.definitions.specs.declared.books.Rules.{Rules}
use Rattle.definitions.specs.declared.books.LoadedBook.{LoadedBook}
use Rattle.definitions.specs.declared.answers.BookRefusal.{BookRefusal}
use Rattle.definitions.specs.Limits.{Limits, max_rules}
use Rattle.definitions.specs.Lists.{padded}
use Rattle.definitions.specs.Parts.{after_parts}
use Rattle.definitions.specs.Books.{Rule, book_lines, rule_source, rule_of, judge}

-- ---- what rules say of a book, whatever stands in them

-- the bytes of the book at a rule's place, as many of them as there are
unfoldable pub rule_at : List ℕ → LoadedRule → Rule
rule_at book r = record { number = r.number; state = r.state; action = r.action; source = take r.len (drop r.start book) }

unfoldable pub rules_in : List ℕ → Rules → List Rule
rules_in book rs = map (rule_at book) (take rs.count rs.list)

-- ---- the rules of a book

-- how far into its line a rule's text stands
unfoldable pub source_start : List ℕ → ℕ
source_start l = length l - length (after_parts 9 3 l)

-- the rule of a line that stands at a place of the book
unfoldable pub loaded_at : ℕ → List ℕ → LoadedRule
loaded_at at l =
    record {
      number = (rule_of l).number;
      state = (rule_of l).state;
      action = (rule_of l).action;
      start = at + source_start l;
      len = length (rule_source l);
    }

-- the rules of lines of which the first stands at a place of the book
unfoldable pub loaded_from : ℕ → List (List ℕ) → List LoadedRule
loaded_from at [] = []
loaded_from at (l ∷ ls) = loaded_at at l ∷ loaded_from (at + length l) ls

abbrev pub unused_rule : LoadedRule
unused_rule = record { number = 0; state = state.Off; action = action.Hold; start = 0; len = 0 }

abbrev pub rules_with : List LoadedRule → Rules
rules_with rs = record { count = length rs; list = padded max_rules unused_rule rs }

-- an accepted book's rules; a refused one has none
abbrev pub loaded_if : Result ℕ BookRefusal → List LoadedRule → LoadedBook
loaded_if (Ok n) rs = record { judgement = Ok n; rules = rules_with rs }
loaded_if (Err e) rs = record { judgement = Err e; rules = rules_with [] }

-- THE LOADED BOOK
unfoldable pub loaded : Limits → List ℕ → LoadedBook
loaded lim book = loaded_if (judge lim book) (loaded_from 0 (book_lines book))
