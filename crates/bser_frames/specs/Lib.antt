pub mod Headers
pub mod Held
pub mod Copied
pub mod Stops
pub mod Stream
pub mod Messages
