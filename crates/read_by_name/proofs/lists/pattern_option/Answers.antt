-- Scanning goes from piece to piece to the end of the option; the bytes stored are the pattern's, and no more of them than the text has bytes.
use mathlib.Core.Path.{refl}
use mathlib.Core.List.{[]}
use Rattle.read_value.specs.Values.{option_value_of}
use Rattle.scan_cursors.proofs.Readings.{fmap_reads, pair_reads}
use Rattle.scan_steps.proofs.Closing.{valued_reads}
use Rattle.read_quoted.proofs.Appended.{ready_on, stored_after, stored_before}
use Rattle.read_by_name.proofs.lists.pattern_option.Goals as goal

pub then_pattern-p-requires : goal.then_pattern-p-requires
then_pattern-p-requires c =
    let p = c.requires in
    ready_on refl (ready_on refl (record { inside = p.0; short = p.1; after = p.2; full = p.3 }) c.gap_at-c.ensures.1)
    c.then_optional_literal-m.ensures

pub returns : goal.returns
unfolding option_value_of
returns c =
    let h = c.requires.0 in
    let q = c.then_pattern-p.ensures in
    let gap = c.gap_at-c.ensures in
    let mark = c.then_optional_literal-m.ensures in
    let end = c.then_closing.ensures in
    let all = stored_after refl h gap.1 (stored_after refl gap.1.inside mark (stored_before refl mark.inside q.1.stored end.1)) in
    let v = fmap_reads _ (pair_reads gap.1.inside mark q.1.stored.read) in
    record {
      al = [];
      b = q.0;
      reads = valued_reads h gap v end;
      kept = c.no_addresses.ensures;
      stored = q.1.stored.kept;
      apart = λ n e. (q.1.counted, refl);
      grown = λ n e. all.grown n e;
    }
