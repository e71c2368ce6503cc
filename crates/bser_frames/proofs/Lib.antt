pub mod Additions
pub mod HeaderLengths
pub mod HeaderPrefixes
pub mod Dues
pub mod Nexts
pub mod Copies
