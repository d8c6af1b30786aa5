mod Examples
pub mod Exits
pub mod OnLiterals
pub mod Runs
pub mod Stages
pub mod Steps
pub mod Parts
