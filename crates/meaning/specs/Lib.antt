-- The rules of the board as definitions. First how its tables of numbers are read, where bytes are, and what a drive is; an IOPB and a
-- viewer over it; link lists, the codes and the walk; steps and when a command waits; picks and runs; the bench; and examples, proved: the
-- starred ones, those with a shorter last head, those with link lists, those at the edge of 16 and of 32 bits, those of what would have
-- fitted, and those of several drives.
pub mod First
pub mod Each
pub mod OneReply
pub mod Store
pub mod Sectors
pub mod Drives
pub mod Place
pub mod Look
pub mod Fields
pub mod View
pub mod Ranges
pub mod State
pub mod Sizes
pub mod Links
pub mod Ends
pub mod Code
pub mod Walk
pub mod Command
pub mod Touch
pub mod Pieces
pub mod Step
pub mod Pick
pub mod Run
pub mod Table
pub mod Conditions
pub mod Deck
pub mod Bench
pub mod Lines
pub mod Starred
pub mod LastHead
pub mod Scatter
pub mod Widths
pub mod Fitted
pub mod Units
pub mod Refusals
pub mod Lends
