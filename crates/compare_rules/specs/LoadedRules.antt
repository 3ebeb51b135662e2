-- The rules of a loaded book with the tables of their texts, by the document's limits.
use Rattle.std.specs.Prelude.{ℕ, List, map, take, drop}
use Rattle.definitions.specs.declared.books.LoadedRule.{LoadedRule}
use Rattle.definitions.specs.declared.books.Rules.{Rules}
use Rattle.definitions.specs.Limits.{document_limits}
use Rattle.definitions.specs.LoadedBooks.{rule_at}
use Rattle.compare_laws.specs.Comparisons.{ReadRule, read_rule}

abbrev pub read_at : List ℕ → LoadedRule → ReadRule
read_at book r = read_rule document_limits (rule_at book r)

-- those from a place on
abbrev pub read_from : List ℕ → Rules → ℕ → List ReadRule
read_from book rs i = map (read_rule document_limits) (map (rule_at book) (drop i (take rs.count rs.list)))
