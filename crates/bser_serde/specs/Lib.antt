pub mod Messages
pub mod Refusals
pub mod Written
pub mod HasMessage
