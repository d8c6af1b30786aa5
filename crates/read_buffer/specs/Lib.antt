pub mod Held
pub mod Packets
pub mod Reading
