use Rattle.read_quoted.proofs.Quotes.{name_read}
use Rattle.read_quoted.proofs.quoted_names.then_name.Goals as goal

pub returns : goal.returns
returns c =
    let run = c.then_run-run.ensures in
    name_read c.then_run-run.result.value.start c.then_run-run.result.value.len c.requires c.then_literal-open.ensures run.0 run.1
    c.then_literal-close.ensures c.limited.ensures
