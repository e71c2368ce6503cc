pub mod Sent
pub mod Stopped
pub mod Ends
pub mod Message
