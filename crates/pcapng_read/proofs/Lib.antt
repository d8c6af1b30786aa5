mod Examples
pub mod Exits
pub mod OnLiterals
pub mod OptionListing
pub mod Passing
pub mod Runs
pub mod Stages
pub mod Steps
pub mod Parts
