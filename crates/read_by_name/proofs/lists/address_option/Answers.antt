-- Scanning goes from piece to piece to the end of the option, and no bytes are stored.
use mathlib.Core.Path.{refl}
use mathlib.Core.List.{[]}
use Rattle.read_value.specs.Values.{pattern_bytes_of, option_value_of}
use Rattle.scan_cursors.proofs.Readings.{fmap_reads, pair_reads}
use Rattle.scan_steps.proofs.Closing.{valued_reads}
use Rattle.read_quoted.proofs.Appended.{appended_none}
use Rattle.read_by_name.proofs.EndPlaces.{grown_none}
use Rattle.read_by_name.proofs.lists.address_option.Goals as goal

pub returns : goal.returns
unfolding option_value_of
returns c =
    let h = c.requires in
    let q = c.then_addresses-l.ensures in
    let v = fmap_reads _ (pair_reads c.gap_at-c.ensures.1.inside c.then_optional_literal-m.ensures q.1.read) in
    let r = valued_reads h c.gap_at-c.ensures v c.then_closing.ensures in
    λ bytes.
    record {
      al = q.0;
      b = [];
      reads = rw q.1.counted r;
      kept = q.1.kept;
      stored = appended_none (pattern_bytes_of bytes _);
      apart = λ n e. (q.1.counted, refl);
      grown = λ n e. grown_none refl h r n e;
    }
