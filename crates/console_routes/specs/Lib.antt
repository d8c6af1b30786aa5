pub mod Routes
pub mod Actions
pub mod Table
