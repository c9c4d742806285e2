pub mod Past
pub mod Coding
pub mod Found
pub mod OneReply
pub mod Records
