pub mod ToCome
pub mod Steps
pub mod Begun
pub mod Written
