pub mod Errors
pub mod Failures
pub mod Folders
pub mod Ports
pub mod Real
