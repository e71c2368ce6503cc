pub mod Structs
pub mod Enums
