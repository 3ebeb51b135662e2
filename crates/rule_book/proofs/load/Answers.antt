-- The loop keeps `Loading`; each way out is a law of it.
use mathlib.Core.Path.{refl, ap, ◌∙◌}
use Prim.Native.Nat.{◌<◌}
use native.Mathlib.Omega.{arith}
use lib.ListN.{length}
use borrow.Author.Rules.{part_to_end}
use Rattle.rule_book.specs.Lines.{first_line}
use Rattle.rule_book.proofs.Loading.{too_long_lem, loading_in, loading_out, loading-not, loading-on, start-short, line_few, step_within, step_on}
use Rattle.rule_book.proofs.load.Goals as goal

pub returns-then-book-gt-BOOK_BYTES : goal.returns-then-book-gt-BOOK_BYTES
returns-then-book-gt-BOOK_BYTES c = too_long_lem c.args.book.now (omega (arith, c.if-book-gt-BOOK_BYTES.true)) c.refused_book.ensures

pub loop-at-init : goal.loop-at-init
loop-at-init c = loading_in c.args.book.now c.no_rules-list.result (omega (arith, c.if-book-gt-BOOK_BYTES.false)) c.no_rules-list.ensures

pub returns-in-Err : goal.returns-in-Err
returns-in-Err c =
    let book = c.args.book.now in
    loading-not c.loop-at.invariant (omega (arith, c.loop-at-test.true)) c.first_line-l.result.now (c.first_line-l.ensures ∙ ap first_line (part_to_end book c.loop-at.at))
    c.check_line.ensures _ c.in-Err.is c.refused_book-in-Err.ensures

pub moved_to-requires : goal.moved_to-requires
moved_to-requires c =
    let book = c.args.book.now in
    start-short c.loop-at.invariant (omega (arith, c.loop-at-test.true)) c.first_line-l.result.now (c.first_line-l.ensures ∙ ap first_line (part_to_end book c.loop-at.at))
    c.check_line.ensures _ c.in-Ok.is

pub bounds-list-n : goal.bounds-list-n
bounds-list-n c =
    let book = c.args.book.now in
    line_few c.loop-at.invariant (omega (arith, c.loop-at-test.true)) c.first_line-l.result.now (c.first_line-l.ensures ∙ ap first_line (part_to_end book c.loop-at.at))
    c.check_line.ensures _ c.in-Ok.is

pub loop-at-smaller : goal.loop-at-smaller
loop-at-smaller c =
    let book = c.args.book.now in
    let e = c.first_line-l.ensures ∙ ap first_line (part_to_end book c.loop-at.at) in
    let m : c.loop-at.at < length book = omega (arith, c.loop-at-test.true) in
    omega (arith, step_within c.loop-at.invariant m c.first_line-l.result.now e, step_on c.loop-at.invariant m c.first_line-l.result.now e)

pub loop-at-preserved : goal.loop-at-preserved
loop-at-preserved c =
    let book = c.args.book.now in
    loading-on c.loop-at.invariant (omega (arith, c.loop-at-test.true)) c.first_line-l.result.now (c.first_line-l.ensures ∙ ap first_line (part_to_end book c.loop-at.at))
    c.check_line.ensures _ c.in-Ok.is c.moved_to.result c.moved_to.ensures

pub returns : goal.returns
returns c = loading_out c.loop-at.invariant (omega (arith, c.loop-at-test.false)) refl
