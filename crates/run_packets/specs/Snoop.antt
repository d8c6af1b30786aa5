pub mod Entries
pub mod Learning
pub mod Learnt
pub mod Lines
pub mod Packets
pub mod Runs
pub mod Store
