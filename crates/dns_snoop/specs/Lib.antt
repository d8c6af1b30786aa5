pub mod Fault
pub mod Messages
pub mod Names
pub mod Observed
pub mod Records
pub mod Rows
pub mod Steps
