-- Each search goes through the starts before `to`, at which the bytes fit; what it finds is the first start. The table that is lent is the one that folds.
use mathlib.Core.Path.{refl, ◌∙◌}
use mathlib.Core.Bool.{true, false}
use Prim.Native.Nat.{◌-◌}
use borrow.Author.Rules.{rules}
use borrow.Author.Tests.{tests}
use Rattle.std.proofs.lemmas.Iterator.{YieldsList-from_range, serves_from_Range}
use Rattle.std.proofs.lemmas.Iterator.Search.{find_from_yields_List}
use Rattle.match_patterns.specs.Starts.{standing}
use Rattle.match_patterns.proofs.FirstStart.{found_first}
use Rattle.match_patterns.proofs.starts.next_start.Goals as goal

pub find-requires : goal.find-requires
find-requires c = record { can = tt; finite = tt; callable = serves_from_Range (λ x q k. search (rules, tests)) (λ x low high. search (rules, c.requires x high)) }

pub returns-then-nocase : goal.returns-then-nocase
returns-then-nocase c =
    let a = c.args in
    let stands = standing true a.b.now a.f.now in
    let found = find_from_yields_List stands _ _ c.find.result c.find.ensures.ran (YieldsList-from_range a.from a.to (a.to - a.from) refl refl) (λ x b q k. search rules) in
    rw c.if-nocase.true (c.unwrap_or.ensures ∙ found_first stands a.from a.to _ c.find.result found c.max-none.ensures)

pub find-requires-2 : goal.find-requires-2
find-requires-2 c = record { can = tt; finite = tt; callable = serves_from_Range (λ x q k. search (rules, tests)) (λ x low high. search (rules, c.requires x high)) }

pub returns : goal.returns
returns c =
    let a = c.args in
    let stands = standing false a.b.now a.f.now in
    let found = find_from_yields_List stands _ _ c.find-2.result c.find-2.ensures.ran (YieldsList-from_range a.from a.to (a.to - a.from) refl refl) (λ x b q k. search rules) in
    rw c.if-nocase.false (c.unwrap_or-2.ensures ∙ found_first stands a.from a.to _ c.find-2.result found c.max-none.ensures)
