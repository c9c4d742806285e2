-- Laws beneath the proofs of this crate: what number 9 asks of data, and the rules' conflict as the code tests it, by footprints first.
pub mod Data
pub mod Touching
