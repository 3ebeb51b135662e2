-- The quotes around the bytes store nothing, and the bytes are as many as are in use more than before.
use mathlib.Core.Path.{refl, ap}
use native.Mathlib.Omega.{arith}
use Rattle.read_value.specs.Values.{PatternBytes}
use Rattle.read_quoted.proofs.Appended.{ready_on, stored_after, stored_before}
use Rattle.read_quoted.proofs.patterns.then_pattern.Goals as goal

pub then_bytes-p-requires : goal.then_bytes-p-requires
then_bytes-p-requires c = ready_on refl c.requires c.then_literal-open.ensures

pub returns : goal.returns
returns c =
    let quote = c.then_literal-open.ensures in
    let q = c.then_bytes-p.ensures in
    let bytes = stored_before refl quote.inside q.1 c.then_literal.ensures in (
      q.0,
      record {
        stored = stored_after refl c.requires.inside quote bytes;
        counted = omega (arith, ap (λ (m : PatternBytes). m.used) q.1.kept);
      },
    )
