-- Flow and context as options are the options as keywords: by cases, each computes.
use mathlib.Core.Path.{◌≡◌, refl}
use Rattle.definitions.specs.declared.table.Flow.{Flow}
use Rattle.definitions.specs.declared.table.Flow.TheVariants as flow
use Rattle.definitions.specs.declared.table.Context.{Context}
use Rattle.definitions.specs.declared.table.Context.TheVariants as context
use Rattle.definitions.specs.Canonical.{flow_option, context_option, modifier_text, option_text, options_text}
use Rattle.write_keywords.specs.Keywords.{flow_keyword, context_keyword}

pub flow_option_lem : (f : Flow) → options_text (flow_option f) ≡ flow_keyword f
unfolding options_text option_text
flow_option_lem flow.Any = refl
flow_option_lem flow.FromClient = refl
flow_option_lem flow.FromServer = refl

pub context_option_lem : (c : Context) → options_text (context_option c) ≡ context_keyword c
unfolding options_text option_text modifier_text
context_option_lem context.Packet = refl
context_option_lem context.Uri = refl
context_option_lem context.Header = refl
context_option_lem context.Body = refl
context_option_lem context.Banner = refl
context_option_lem context.Host = refl
context_option_lem context.File = refl
