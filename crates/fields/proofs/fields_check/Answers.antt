-- The test of any of the six is the definitions' test.
use Rattle.std.specs.Prelude.{Ok, Err}
use Rattle.std.proofs.Common.{◌≡◌, sym, ◌∙◌, rules}
use Rattle.std.proofs.lemmas.Iterator.{YieldsList-from_slice}
use Rattle.std.proofs.lemmas.Iterator.Search.{any_from_yields_List}
use Rattle.definitions.specs.declared.answers.Refusal.TheVariants as refusal
use Rattle.definitions.specs.Fields.{mapped, field_passes, fields_check}
use Rattle.laws.proofs.Numbers.{fields_told}
use Rattle.fields.proofs.Mapped.{any_any}
use Rattle.fields.proofs.fields_check.Goals as goal

pub returns-then-any : goal.returns-then-any
unfolding fields_check
returns-then-any c =
    let a = c.args in
    let passes = field_passes a.payload.now a.decoded.now a.m in
    let found = any_from_yields_List passes _ _ c.any.result c.any.ensures.ran (YieldsList-from_slice mapped cc) (λ x b q k. search rules) in
    let h : Err refusal.FieldSpan ≡ fields_check a.payload.now a.decoded.now a.m = rw (sym (found ∙ any_any passes mapped) ∙ c.if-any.true) in
    record { answer = h; numbers = (fields_told _ _ _ h).1 }

pub returns-else-any : goal.returns-else-any
unfolding fields_check
returns-else-any c =
    let a = c.args in
    let passes = field_passes a.payload.now a.decoded.now a.m in
    let found = any_from_yields_List passes _ _ c.any.result c.any.ensures.ran (YieldsList-from_slice mapped cc) (λ x b q k. search rules) in
    let h : Ok tt ≡ fields_check a.payload.now a.decoded.now a.m = rw (sym (found ∙ any_any passes mapped) ∙ c.if-any.false) in
    record { answer = h; numbers = (fields_told _ _ _ h).1 }
