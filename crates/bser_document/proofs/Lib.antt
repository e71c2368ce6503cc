mod Spelled
pub mod Readings
pub mod Found
mod Places
mod Facts
pub mod Whole
mod Links
mod Kept
mod Lengths
mod Ends
mod Holds
mod Read
mod Lies
mod Walks
mod Keyed
mod Tells
mod Looks
mod Fields
mod Paths
mod Tokens
mod Sorts
mod Puts
pub mod Depth
mod Rising
mod Alike
mod PutPairs
pub mod Orders
mod RowsPut
mod Shown
mod Messages
