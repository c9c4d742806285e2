-- Laws beneath the proofs of this crate. First a store of two lent slices, and steps on it, one or several at once; then the search for a
-- blocking command, and what the tests of a pick show; then tables that differ in their steps taken, and the loops of the two runs; and that
-- no second reply meets the contract of a pick by what was seen.
pub mod Edge
pub mod Copying
pub mod Windows
pub mod Moving
pub mod Searching
pub mod Picking
pub mod Seen
pub mod Sighting
pub mod Taken
pub mod Runs
pub mod ByPicks
pub mod Written
pub mod OneReply
