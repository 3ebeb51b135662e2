-- Each `return` is the definition's refusal by the tests that led there; after all of them it reads the options.
use mathlib.Core.Path.{sym, ap, ◌∙◌}
use Prim.Native.Nat.{ℕ}
use native.Mathlib.Omega.{arith}
use Rattle.definitions.specs.declared.answers.Refusal.TheVariants.{TextByte}
use Rattle.definitions.specs.Limits.{document_limits}
use Rattle.definitions.specs.Reading.{refused_reading}
use Rattle.read_frame.proofs.Opening.{read_length, read_byte, read-unopened, read_opened, opened_long}
use Rattle.read_frame.proofs.front_of.Goals as goal

pub returns-then-not-is_text_length : goal.returns-then-not-is_text_length
returns-then-not-is_text_length c =
    read_length c.args.s.now (λ p. let t = c.is_text_length.ensures.1 p in let f = c.if-not-is_text_length.true in cc)

pub returns-then-run-s : goal.returns-then-run-s
returns-then-run-s c =
    let s = c.args.s.now in
    let fits = c.is_text_length.ensures.0 c.if-not-is_text_length.false in
    let e = c.printable_run-run.ensures in
    let h = c.if-run-s.true in
    read_byte s fits.0 fits.1 (omega (arith, e, h))
    ∙ ap (λ (n : ℕ). refused_reading document_limits.room TextByte n) (sym e)

pub returns-then-not-is_opened : goal.returns-then-not-is_opened
returns-then-not-is_opened c =
    let s = c.args.s.now in
    let fits = c.is_text_length.ensures.0 c.if-not-is_text_length.false in
    let e = c.printable_run-run.ensures in
    let h = c.if-run-s.false in
    read-unopened s fits.0 fits.1 (omega (arith, e, h)) (sym c.is_opened.ensures ∙ c.if-not-is_opened.true)

pub returns : goal.returns
returns c =
    let s = c.args.s.now in
    let fits = c.is_text_length.ensures.0 c.if-not-is_text_length.false in
    let e = c.printable_run-run.ensures in
    let h = c.if-run-s.false in
    let opened = sym c.is_opened.ensures ∙ c.if-not-is_opened.false in
    (read_opened s fits.0 fits.1 (omega (arith, e, h)) opened, opened_long s opened, fits.1)
