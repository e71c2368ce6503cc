pub mod Canon
pub mod Line
pub mod Arguments
pub mod Process
pub mod Room
pub mod Buffered
pub mod Slices
