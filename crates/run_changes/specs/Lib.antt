pub mod Import
pub mod Serving
