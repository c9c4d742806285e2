-- What the functions of this crate say in their contracts beside the rules: what a command touches, as hulls, what number 9 asks, and what
-- is seen of a record.
pub mod Kinds
pub mod Footprints
pub mod Data
pub mod Look
