mod Examples
pub mod Folders
pub mod Leads
pub mod Orders
pub mod Stores
