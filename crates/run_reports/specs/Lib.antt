pub mod Rows
pub mod Tables
pub mod Store
pub mod Export
