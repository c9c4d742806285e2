-- What is proved of the exported functions' contracts.
pub mod Agree
