pub mod OfUnit
pub mod Rooms
