use mathlib.Core.Path.{ap, ◌∙◌}
use mathlib.Core.List.{append-nil}
use Rattle.definitions.specs.OptionValues as entry
use Rattle.definitions.specs.Canonical.{within_option, modifier_text, option_text, options_text}
use Rattle.write_bytes.proofs.Putting.{none_put, told}
use Rattle.write_patterns.proofs.put_within.Goals as goal

pub returns-in-None : goal.returns-in-None
unfolding options_text
returns-in-None c = told (ap (λ x. options_text (within_option x)) c.in-None.is) none_put

pub returns-in-Some : goal.returns-in-Some
unfolding options_text option_text
returns-in-Some c = told (ap (λ x. options_text (within_option x)) c.in-Some.is ∙ append-nil (modifier_text (entry.Within c.in-Some.reach)))
    c.put_within_value.ensures
