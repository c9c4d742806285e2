-- What is told of a viewer, in the terms of `meaning`; and what is proved of the fields that it shows, and of its functions' replies.
pub mod Seen
pub mod Zero
pub mod OneReply
