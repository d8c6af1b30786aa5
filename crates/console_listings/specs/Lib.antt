pub mod Texts
pub mod Lists
pub mod Rows
pub mod Refusals
pub mod Why
