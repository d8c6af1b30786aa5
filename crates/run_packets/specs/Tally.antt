pub mod Store
pub mod Tallied
pub mod Texts
