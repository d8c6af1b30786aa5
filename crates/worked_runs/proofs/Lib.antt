pub mod Ends
pub mod Stores
pub mod Changes
pub mod Replays
pub mod Examples
