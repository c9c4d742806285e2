-- Demands 1 and 2 as statements about the definitions of `meaning`. Each file is proved in the file of its name in proofs/; but WalkNumbers
-- in Walk and WalkFills, all other numbers and the codes in Numbers, and the run as written of Taken in AsWritten.
-- demand 1: every number exactly when the rules say, nothing changed on a refusal, one reply
pub mod WalkNumbers
pub mod PickNumbers
pub mod EachNumber
pub mod Looks
pub mod Numbering
pub mod Widths
pub mod Views
pub mod Codes
pub mod Fitted
pub mod RangesKept
pub mod AbsentUnits
pub mod Refused
pub mod OneReply
-- demand 2: what one step moves, and what many do
pub mod StepMoves
pub mod Closing
pub mod PickMoves
pub mod Taken
pub mod WrittenThenRead
pub mod OneRange
-- with unit 0 alone all is as it was with one drive, but for one byte
pub mod AsBefore
