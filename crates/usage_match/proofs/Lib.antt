mod Examples
mod FlagTexts
pub mod Meant
pub mod OnLiterals
pub mod Parts
