-- The two entries are compared.
use borrow.Author.Rules.{rules}
use Rattle.match_folding.proofs.Alike.{alike_by_entries}
use Rattle.match_patterns.proofs.bytes.alike.Goals as goal

pub returns : goal.returns
returns c = rw (c.from.ensures, c.from-2.ensures) (alike_by_entries _ c.requires c.args.x c.args.y (search rules) (search rules))
