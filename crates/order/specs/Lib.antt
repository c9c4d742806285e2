-- Demand 3, as statements about the definitions of `meaning`. First what they say of a state and of a list of calls; then that any calls
-- and then the rest as written end as the whole chain as written does, and that the counts add up; then what a reader may ask of the
-- definitions themselves. Each statement is proved in proofs/, under its own name in small letters with hyphens.
pub mod States
pub mod Calls
pub mod Rest
pub mod Steps
pub mod Earliest
pub mod Accepted
