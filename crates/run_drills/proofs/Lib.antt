mod Examples
pub mod Bounds
pub mod Counted
pub mod Joins
pub mod Lines
pub mod Names
pub mod PacketCounts
pub mod Parts
pub mod RanLaws
pub mod Rounds
pub mod Stores
