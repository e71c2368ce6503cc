pub mod Missing
pub mod Operands
pub mod Levels
pub mod Samples
