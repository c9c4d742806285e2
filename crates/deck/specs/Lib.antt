-- What the contracts of this crate say beside the definitions of `meaning`: what a report means, what it is to put bytes into a run, and
-- that one reply alone meets each.
pub mod Meant
pub mod Put
pub mod OneReply
