-- Scanning goes from piece to piece to the end of the option, and no bytes are stored.
use mathlib.Core.Path.{refl}
use mathlib.Core.List.{[]}
use Rattle.read_value.specs.Values.{pattern_bytes_of, option_value_of}
use Rattle.read_value.specs.declared.Value.TheVariants.{Name}
use Rattle.definitions.specs.Forms.{name_form}
use Rattle.scan_cursors.specs.declared.Cursor.TheVariants.{Parsed}
use Rattle.scan_cursors.specs.Reads.{Reads}
use Rattle.scan_cursors.proofs.Readings.{fmap_reads}
use Rattle.scan_cursors.proofs.Onward.{came_parsed}
use Rattle.scan_steps.proofs.Closing.{valued_reads}
use Rattle.read_quoted.proofs.Appended.{appended_none}
use Rattle.read_by_name.proofs.EndPlaces.{grown_none}
use Rattle.read_by_name.proofs.lists.name_option.Goals as goal

pub returns : goal.returns
unfolding option_value_of
returns c =
    let v = option_value_of c.args.s.now (Name c.then_name-n.result.value.start c.then_name-n.result.value.len) [] [] in
    let q = c.then_name-n.ensures in
    let r : Reads name_form c.args.s.now (Parsed c.args.at) v c.then_closing.result = valued_reads c.requires c.gap_at-c.ensures (fmap_reads _ q.read) c.then_closing.ensures in
    λ bytes.
    record {
      al = [];
      b = [];
      reads = r;
      kept = c.no_addresses.ensures;
      stored = appended_none (pattern_bytes_of bytes _);
      apart = λ k e. let m = came_parsed c.then_closing.ensures.1 e in (q.low m.0 m.1, q.high m.0 m.1, q.inside, refl, refl);
      grown = λ k e. grown_none refl c.requires r k e;
    }
