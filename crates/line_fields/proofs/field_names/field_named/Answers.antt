-- The names, one after the other: those before were tried and were not it.
use mathlib.Core.Path.{sym, ◌∙◌}
use Rattle.line_fields.specs.FieldMaps.{field_named}
use Rattle.line_fields.proofs.field_names.field_named.Goals as goal

pub returns-then-is_word : goal.returns-then-is_word
unfolding field_named
returns-then-is_word c = rw (sym c.is_word.ensures ∙ c.if-is_word.true)

pub returns-then-is_word-2 : goal.returns-then-is_word-2
unfolding field_named
returns-then-is_word-2 c = rw (sym c.is_word.ensures ∙ c.if-is_word.false, sym c.is_word-2.ensures ∙ c.if-is_word-2.true)

pub returns-then-is_word-3 : goal.returns-then-is_word-3
unfolding field_named
returns-then-is_word-3 c = rw (
  sym c.is_word.ensures ∙ c.if-is_word.false,
  sym c.is_word-2.ensures ∙ c.if-is_word-2.false,
  sym c.is_word-3.ensures ∙ c.if-is_word-3.true,
)

pub returns-then-is_word-4 : goal.returns-then-is_word-4
unfolding field_named
returns-then-is_word-4 c = rw (
  sym c.is_word.ensures ∙ c.if-is_word.false,
  sym c.is_word-2.ensures ∙ c.if-is_word-2.false,
  sym c.is_word-3.ensures ∙ c.if-is_word-3.false,
  sym c.is_word-4.ensures ∙ c.if-is_word-4.true,
)

pub returns-then-is_word-5 : goal.returns-then-is_word-5
unfolding field_named
returns-then-is_word-5 c = rw (
  sym c.is_word.ensures ∙ c.if-is_word.false,
  sym c.is_word-2.ensures ∙ c.if-is_word-2.false,
  sym c.is_word-3.ensures ∙ c.if-is_word-3.false,
  sym c.is_word-4.ensures ∙ c.if-is_word-4.false,
  sym c.is_word-5.ensures ∙ c.if-is_word-5.true,
)

pub returns-then-is_word-6 : goal.returns-then-is_word-6
unfolding field_named
returns-then-is_word-6 c = rw (
  sym c.is_word.ensures ∙ c.if-is_word.false,
  sym c.is_word-2.ensures ∙ c.if-is_word-2.false,
  sym c.is_word-3.ensures ∙ c.if-is_word-3.false,
  sym c.is_word-4.ensures ∙ c.if-is_word-4.false,
  sym c.is_word-5.ensures ∙ c.if-is_word-5.false,
  sym c.is_word-6.ensures ∙ c.if-is_word-6.true,
)

pub returns : goal.returns
unfolding field_named
returns c = rw (
  sym c.is_word.ensures ∙ c.if-is_word.false,
  sym c.is_word-2.ensures ∙ c.if-is_word-2.false,
  sym c.is_word-3.ensures ∙ c.if-is_word-3.false,
  sym c.is_word-4.ensures ∙ c.if-is_word-4.false,
  sym c.is_word-5.ensures ∙ c.if-is_word-5.false,
  sym c.is_word-6.ensures ∙ c.if-is_word-6.false,
)
