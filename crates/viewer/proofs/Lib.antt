-- What a walk by hand of a function over the viewer takes, and the theorems about the definitions.
pub mod Callee
pub mod Reading
pub mod Zero
pub mod OneReply
