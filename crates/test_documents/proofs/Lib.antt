pub mod Computed
pub mod Spelling
pub mod ReadBack
