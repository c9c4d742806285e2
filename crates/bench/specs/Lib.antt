-- What the contract of this program's reading says.
pub mod Within
