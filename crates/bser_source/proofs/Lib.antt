pub mod Lists
pub mod Windows
pub mod Refusals
pub mod Buffers
pub mod Pulls
