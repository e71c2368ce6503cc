pub mod Marks
pub mod Moves
pub mod Runs
pub mod Hands
pub mod Sizes
pub mod Loops
pub mod Calls
pub mod Signs
