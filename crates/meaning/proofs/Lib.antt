-- Laws about the definitions of specs/, each beside what it is about, below all crates that use them. First tests and lists; then spaces
-- and moves, ranges, records and steps; then what each test means in words, what the number 0 tells, and what an accepted walk gives.
pub mod Rows
pub mod Loops
pub mod OneReply
pub mod All
pub mod Tests
pub mod Overwrite
pub mod Spaces
pub mod Places
pub mod Numbering
pub mod Widths
pub mod Means
pub mod Table
pub mod Ranges
pub mod Conditions
pub mod Looks
pub mod Conflict
pub mod Links
pub mod Pieces
pub mod Records
pub mod Numbers
pub mod Coded
pub mod Counts
pub mod Still
pub mod Lent
pub mod Told
pub mod Walks
