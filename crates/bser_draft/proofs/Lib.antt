mod Coming
pub mod Scalars
pub mod Steps
pub mod Whole
