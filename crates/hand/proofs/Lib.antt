-- A walk by hand goes through a function's code statement by statement, in the toolchain's calculus (its `Types/Kit` and `Types/Run`).
-- What every such walk does in the same way stands here: its locals come and go all at once, a covered function is called, a walk is
-- taken to the function's contract; a branch comes out, a loop counts, a local array is read by its elements, and a lent slice is lent again.
pub mod Frame
pub mod Calls
pub mod Contracts
pub mod Branches
pub mod Loops
pub mod Arrays
pub mod Lending
pub mod Shown
