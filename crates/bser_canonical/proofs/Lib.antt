pub mod Lines
pub mod Words
pub mod Writing
pub mod Sent
pub mod Slices
