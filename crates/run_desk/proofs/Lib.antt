pub mod JudgedPackets
pub mod Refusals
pub mod Runs
pub mod SameCaptures
pub mod Stores
