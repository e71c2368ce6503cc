pub mod Takes
pub mod Left
pub mod Kept
