-- The theorems about the contracts.
pub mod Agree
