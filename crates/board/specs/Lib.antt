-- What the functions of this crate say in their contracts beside the rules: one unit's image beneath all others, sectors moved together, what
-- steps ask of it, what a run answers, what a pick sees and changes, what a run by picks keeps of its commands and takes at once,
-- and that no second reply meets a contract.
pub mod OneUnit
pub mod Moved
pub mod Ready
pub mod RunAnswers
pub mod Sight
pub mod Seen
pub mod Watching
pub mod Together
pub mod OneReply
