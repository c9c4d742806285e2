-- Examples on which the promises speak, as statements about the definitions of `meaning`.
pub mod Example
