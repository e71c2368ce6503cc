pub mod Agreement
pub mod Returned
pub mod Least
pub mod Bounds
pub mod TemplateRows
