pub mod Kinds
pub mod Fault
pub mod Word
pub mod Spelling
pub mod Reading
pub mod Records
