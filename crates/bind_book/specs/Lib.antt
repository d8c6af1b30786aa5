pub mod Book
pub mod Observations
pub mod Plans
pub mod Reading
