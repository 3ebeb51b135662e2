use Rattle.read_options.proofs.Negation.{signed_kept}
use Rattle.read_value.specs.Values.{option_value_of}
use Rattle.scan_cursors.proofs.Readings.{fmap_reads, pair_reads}
use Rattle.scan_steps.proofs.Closing.{valued_reads}
use Rattle.read_options.proofs.modifiers.distance_option.Goals as goal

pub returns : goal.returns
unfolding option_value_of
returns c =
    let minus = c.then_optional_literal-minus.ensures in
    let number = c.then_number-n.ensures.0 in
    let value = fmap_reads _ (pair_reads c.gap_at-c.ensures.1.inside minus (pair_reads minus.inside number c.then_directed-r.ensures)) in (
      rw (c.signed_of.ensures, signed_kept c.then_number-n.result.value c.then_number-n.ensures.1 c.then_optional_literal-minus.result.value)
          (valued_reads c.requires c.gap_at-c.ensures value c.then_closing.ensures),
      tt,
    )
