pub mod Bounds
pub mod Calendar
pub mod DateExamples
pub mod DatesOnLiterals
pub mod Digits
pub mod Elements
mod Examples
pub mod Members
pub mod OnLiterals
pub mod Short
pub mod Parts
