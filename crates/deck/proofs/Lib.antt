pub mod Counting
pub mod Laying
pub mod Putting
pub mod Numerals
pub mod Running
pub mod Outcomes
pub mod Bounds
pub mod OneReply
