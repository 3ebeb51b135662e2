-- At a limit of canonical text, a text with one ip_id: two bytes less than the limit are written as a text at the limit, one more is 21. By computation, under
-- narrow limits; it stands here and not beside the other examples (definitions/proofs/IpIdCases), so that no edit of definitions computes it anew. Document 02, T-09.
use mathlib.Core.Path.{◌≡◌, refl}
use mathlib.Core.Bool.{true}
use Rattle.definitions.specs.Lists.{all?}
use Rattle.definitions.specs.NumberCases.{agrees}
use Rattle.definitions.specs.IpIdCases.{ip_id_limits}
use Rattle.definitions.specs.Computing.{computing}

pub ip_id_limits_lem : all? agrees ip_id_limits ≡ true
unfolding computing
ip_id_limits_lem = refl
