-- The examples compute.
pub mod Example
