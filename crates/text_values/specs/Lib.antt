pub mod Added
pub mod Faults
pub mod Lists
pub mod Numbers
pub mod Paths
