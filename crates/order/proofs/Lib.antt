-- Proofs of the statements in specs/. First the heart of the matter over any commands, and that steps of commands that do not conflict
-- commute; then picks, and the run as written as a run by picks; then the statements, each at the end of its file.
pub mod Heart
pub mod Footprint
pub mod Accepted
pub mod Picks
pub mod Written
pub mod Earliest
pub mod Rest
pub mod Steps
pub mod Calls
