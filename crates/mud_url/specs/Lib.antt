pub mod Fault
pub mod Host
pub mod Url
