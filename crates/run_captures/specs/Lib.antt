pub mod Capture
pub mod Captures
pub mod Fault
pub mod First
pub mod Fold
pub mod Reading
pub mod Runs
pub mod Same
