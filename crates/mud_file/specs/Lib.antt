pub mod Bounds
pub mod DateTime
pub mod Entries
pub mod File
pub mod Head
pub mod Lists
