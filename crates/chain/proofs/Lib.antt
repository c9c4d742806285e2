pub mod Follow
pub mod Found
pub mod OneReply
pub mod Over
pub mod Past
pub mod Alone
pub mod Coding
