pub mod Texts
pub mod Flags
pub mod Ports
pub mod Containers
pub mod Matches
