pub mod Reading
pub mod Samples
pub mod Templates
pub mod Recorded
pub mod Spelled
pub mod Faults
