-- Each return rewrites with the tests that led there and with what `usable_count` ensures.
use borrow.Author.Tests.{lt-ltb, le-ltb}
use Rattle.read_insert.specs.Checking.{outcome_in}
use Rattle.read_insert.proofs.checking.judge.Goals as goal
use Rattle.read_insert.proofs.checking.judge.Goals.{then-not-st-via-then-not-st, then-not-st-via-else-not-st+then-not-st-2}

pub returns-then-usable-st : goal.returns-then-usable-st
unfolding outcome_in
returns-then-usable-st c = rw (← c.usable_count-usable.ensures, lt-ltb _ _ c.if-usable-st.true)

pub returns-then-not-st : goal.returns-then-not-st
unfolding outcome_in
returns-then-not-st c =
    let counted = c.usable_count-usable.ensures in
    let all_usable = le-ltb _ _ c.if-usable-st.false in
    elim c.then-not-st.branch [
      | then-not-st-via-then-not-st w ↦ rw (← counted, all_usable, w.if-not-st.true)
      | then-not-st-via-else-not-st+then-not-st-2 w ↦ rw (← counted, all_usable, w.if-not-st.false, w.if-not-st-2.true)
    ]

pub returns : goal.returns
unfolding outcome_in
returns c =
    let counted = c.usable_count-usable.ensures in
    let all_usable = le-ltb _ _ c.if-usable-st.false in
    rw (← counted, all_usable, c.if-not-st.false, c.if-not-st-2.false)
