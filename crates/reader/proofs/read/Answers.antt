-- The front's refusal, that of the options, or the table of what was stored.
use Rattle.std.specs.Prelude.{Result}
use mathlib.Core.Path.{refl, sym, ap, ◌∙◌, subst}
use lib.ListN.{replicate}
use Rattle.definitions.specs.Limits.{max_items}
use Rattle.definitions.specs.declared.answers.TextRefusal.{TextRefusal}
use Rattle.laws.proofs.Numbers.{read_told}
use Rattle.read_state.specs.declared.State.{State}
use Rattle.read_frame.specs.Framing.{Fronts}
use Rattle.read_insert.specs.Checking.{table_in}
use Rattle.reader.specs.Stored.{StoresOptions}
use Rattle.reader.proofs.read.Goals as goal

pub read_options-requires : goal.read_options-requires
read_options-requires c = record {
  opened = subst (λ (f : Result Unit TextRefusal). Fronts c.args.s.now f) c.in_default.is c.front_of.ensures;
  no_bytes = refl;
  no_items = ap (replicate max_items) c.no_slot-items.ensures;
}

pub returns-in-Err : goal.returns-in-Err
returns-in-Err c =
    let front = subst (λ (f : Result Unit TextRefusal). Fronts c.args.s.now f) c.in-Err.is c.front_of.ensures in
    let z = read_told _ (c.refused.ensures ∙ sym front) in
    record { answer = z.0; numbers = z.1 }

pub name_of-requires : goal.name_of-requires
name_of-requires c =
    let o = c.read_options in
    let w = subst (λ (r : Result State TextRefusal). StoresOptions c.args.s.now o.new.bytes o.new.items r) c.in-Ok.is o.ensures in
    (w.1, w.2)

pub returns : goal.returns
unfolding table_in
returns c =
    let o = c.read_options in
    let w = subst (λ (r : Result State TextRefusal). StoresOptions c.args.s.now o.new.bytes o.new.items r) c.in-Ok.is o.ensures in
    let z = read_told _ (rw c.name_of.ensures (sym w.0)) in
    record { answer = z.0; numbers = z.1 }

pub returns-in-Err-read_options : goal.returns-in-Err-read_options
returns-in-Err-read_options c =
    let o = c.read_options in
    let w = subst (λ (r : Result State TextRefusal). StoresOptions c.args.s.now o.new.bytes o.new.items r) c.in-Err-read_options.is o.ensures in
    let z = read_told _ (c.refused-in-Err-read_options.ensures ∙ sym w) in
    record { answer = z.0; numbers = z.1 }
