-- A refusal of the reader is answered with its number and place; a table with its canonical text or the writer's refusal, as the definition does by the
-- outcome. What is read is well formed, as the writer asks of its caller (`read_formed`).
use mathlib.Core.Path.{refl, sym, ◌∙◌}
use Rattle.text_lines.proofs.AnswerTexts.{wrote_line, declined_line, read_formed, read_line, refused_line_lem}
use Rattle.write_bytes.proofs.Putting.{told}
use Rattle.text_lines.proofs.answers.answer_text.Goals as goal

pub returns-in-Err : goal.returns-in-Err
returns-in-Err c =
    let read = c.read-reading in
    told (refused_line_lem c.args.s.now read.result read.ensures.answer c.in-Err.e.refusal c.in-Err.e.place c.in-Err.is) c.put_refused.ensures

pub write_formed-requires : goal.write_formed-requires
write_formed-requires c =
    let read = c.read-reading in
    read_formed c.args.s.now read.result read.ensures.answer c.in_default.is

pub returns-in-Ok : goal.returns-in-Ok
returns-in-Ok c =
    let s = c.args.s.now in
    let read = c.read-reading in
    let w = c.write_formed.ensures in
    let formed = read_formed s read.result read.ensures.answer c.in_default.is in
    told (read_line s read.result read.ensures.answer c.in_default.is)
    (told (wrote_line read.result.table _ refl formed w.put c.in-Ok.n (sym c.in-Ok.is ∙ w.answer)) c.put_ok.ensures)

pub returns-in-Err-write_formed : goal.returns-in-Err-write_formed
returns-in-Err-write_formed c =
    let s = c.args.s.now in
    let read = c.read-reading in
    told (read_line s read.result read.ensures.answer c.in_default.is)
    (told (declined_line read.result.table _ refl c.in-Err-write_formed.r (sym c.in-Err-write_formed.is ∙ c.write_formed.ensures.answer))
    c.put_refused-in-Err-write_formed.ensures)
