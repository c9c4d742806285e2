-- Laws beneath the crates above: what room a unit has.
pub mod ByUnit
