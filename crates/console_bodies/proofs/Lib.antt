pub mod Always
mod Examples
pub mod OnLiterals
pub mod Rightly
pub mod Parts
