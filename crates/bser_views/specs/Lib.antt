pub mod Counting
pub mod Summed
