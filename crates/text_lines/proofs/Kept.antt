-- Beyond the limit of a text, any more bytes of a line change no answer.
use mathlib.Core.Path.{◌≡◌}
use mathlib.Core.List.{List}
use Prim.Native.Nat.{ℕ, ◌<◌}
use lib.ListN.{take}
use Rattle.definitions.specs.declared.answers.Refusal.TheVariants.{TextLength}
use Rattle.definitions.specs.Limits.{document_limits}
use Rattle.definitions.specs.Lines.{refused_line, line_of}
use Rattle.text_lines.proofs.AnswerTexts.{too_long_lem}
use Rattle.line_stream.proofs.Keeping.{kept_beyond}

pub kept_line : (m : ℕ) (s : List ℕ) → document_limits.text < m → line_of document_limits (take m s) ≡ line_of document_limits s
kept_line = kept_beyond (line_of document_limits) document_limits.text (refused_line TextLength 0) too_long_lem
