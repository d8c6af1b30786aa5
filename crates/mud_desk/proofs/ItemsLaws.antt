pub mod Anew
pub mod Reading
