use mathlib.Core.Path.{◌≡◌}
use Prim.Native.Nat.{◌-◌}
use Rattle.definitions.specs.Lists.{keep}
use Rattle.definitions.specs.Placements.{lex_less}
use Rattle.write_bytes.specs.Puts.{puts}
use Rattle.search.specs.Searching.{searched_table}
use Rattle.match_placements.specs.Listing.{list_in}
use Rattle.case_lists.specs.AnswerTexts.{placements_after, max_after}
use Rattle.case_lists.proofs.lists.put_after.Given as goal

abbrev pub invariant-loop : goal.invariant-loop
invariant-loop l =
    puts l.initial.out l.initial.next
    (placements_after max_after (keep (lex_less l.initial.bound) (list_in (searched_table l.protocol l.flow l.items l.count l.bytes) l.header l.payload l.decoded l.dir l.m)))
    ≡ puts l.out l.next
    (placements_after (max_after - l.counter) (keep (lex_less l.bound) (list_in (searched_table l.protocol l.flow l.items l.count l.bytes) l.header l.payload l.decoded l.dir l.m)))
