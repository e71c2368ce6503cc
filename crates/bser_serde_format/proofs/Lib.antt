pub mod Rows
pub mod Pieces
pub mod Tags
pub mod Onward
pub mod Firsts
pub mod Parts
pub mod Staying
