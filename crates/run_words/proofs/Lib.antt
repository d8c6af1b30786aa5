pub mod Building
mod Examples
pub mod Lists
pub mod Named
pub mod Passing
pub mod Parts
