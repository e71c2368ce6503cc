pub mod Bodies
pub mod Errors
pub mod Left
pub mod Lines
pub mod Made
pub mod Places
pub mod Scalars
pub mod Written
