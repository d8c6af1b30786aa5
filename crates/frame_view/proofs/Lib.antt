pub mod Examples
pub mod Hex
pub mod Ipv4Headers
pub mod Ipv6Headers
pub mod Plain
pub mod Parts
