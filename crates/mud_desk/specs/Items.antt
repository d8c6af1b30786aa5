pub mod Opening
pub mod Loaded
