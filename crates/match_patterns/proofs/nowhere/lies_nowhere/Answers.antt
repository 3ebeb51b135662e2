-- It lies nowhere if the walk over its window comes to the window's end. Outside the window it lies nowhere.
use mathlib.Core.Path.{sym, ap, ◌∙◌}
use lib.Dec.{leb}
use Rattle.definitions.specs.Lists.{none?}
use Rattle.match_patterns.specs.Starts.{standing}
use Rattle.match_patterns.proofs.Listing.{places_window}
use Rattle.match_patterns.proofs.FirstStart.{none_passes}
use Rattle.match_patterns.proofs.nowhere.lies_nowhere.Goals as goal

pub returns : goal.returns
returns c =
    let a = c.args in
    let w = c.window-w in
    let stands = standing a.p.nocase a.b.now a.f.now in
    sym (ap none? (places_window a.p a.b.now a.last a.f.now w.result w.ensures)
    ∙ none_passes stands w.result.to w.result.from
    ∙ ap (leb w.result.to) (sym c.next_start.ensures))
