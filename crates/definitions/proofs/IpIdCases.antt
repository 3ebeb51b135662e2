-- ip_id reads as `--ip.id = N` and is written so, and a table that holds the old kind is refused with 20: by computation.
use mathlib.Core.Path.{◌≡◌, refl}
use mathlib.Core.Bool.{true}
use Rattle.definitions.specs.Lists.{all?}
use Rattle.definitions.specs.NumberCases.{agrees}
use Rattle.definitions.specs.IpIdCases.{ip_id_cases, old_kind_cases}
use Rattle.definitions.specs.Computing.{computing}

pub ip_id_cases_lem : all? agrees ip_id_cases ≡ true
unfolding computing
ip_id_cases_lem = refl

pub old_kind_cases_lem : all? agrees old_kind_cases ≡ true
unfolding computing
old_kind_cases_lem = refl
