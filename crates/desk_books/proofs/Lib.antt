pub mod Adding
pub mod Asked
pub mod Binding
pub mod Desks
pub mod FileRows
pub mod Paid
pub mod Planning
pub mod Whole
