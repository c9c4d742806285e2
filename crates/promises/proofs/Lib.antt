-- The proofs, in the order in which they stand on each other. The laws of tests, tables and conditions are those of `meaning`.
-- demand 1: every number exactly when the rules say, nothing changed on a refusal, one reply
pub mod Chain
pub mod Walk
pub mod WalkFills
pub mod Numbers
pub mod Fitted
pub mod RangesKept
pub mod EachNumber
pub mod Looks
pub mod Numbering
pub mod Widths
pub mod Views
pub mod AbsentUnits
pub mod Refused
-- demand 2: what one step moves, and what many do
pub mod Bytes
pub mod Scattered
pub mod StepMoves
pub mod Closing
pub mod PickMoves
pub mod Taken
pub mod AsWritten
pub mod WrittenThenRead
pub mod OneRange
-- and, since steps keep lengths, one reply
pub mod OneReply
-- with unit 0 alone all is as it was with one drive, but for one byte
pub mod ByteTwo
pub mod Agree
pub mod AgreeRuns
pub mod AsBefore
