-- Laws that belong to no one function: one option more, the last pattern, the state of one option
-- more, what is due for it, and the judgement at the end.
pub mod OptionEffects
pub mod LastPattern
pub mod Agreement
pub mod Steps
pub mod Items
pub mod OneMore
pub mod SaidOnce
pub mod Outcomes
pub mod Contracts
