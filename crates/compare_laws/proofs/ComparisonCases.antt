-- The examples' output is what they say, by computation.
use mathlib.Core.Path.{◌≡◌, refl}
use mathlib.Core.Bool.{true}
use Rattle.definitions.specs.Lists.{all?}
use Rattle.definitions.specs.NumberCases.{agrees}
use Rattle.definitions.specs.Computing.{computing}
use Rattle.table_equality.specs.SameTables.{same_by, same_item, same_address, same_slot, same_table}
use Rattle.compare_laws.specs.Comparisons.{read_rule, read_rules, differences, both_line, new_lines, merged_by, rules_output, refused_output, compare_output}
use Rattle.compare_laws.specs.ComparisonCases.{compares, line, comparison_cases}

pub comparison_cases_lem : all? agrees comparison_cases ≡ true
unfolding
    computing same_by same_item same_address same_slot same_table read_rule read_rules differences both_line new_lines merged_by rules_output refused_output compare_output
    compares line comparison_cases
comparison_cases_lem = refl
