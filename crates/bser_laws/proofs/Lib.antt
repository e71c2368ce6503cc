pub mod Alike
pub mod Back
pub mod Shorter
pub mod WrittenOut
