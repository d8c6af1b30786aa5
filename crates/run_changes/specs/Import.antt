pub mod Names
pub mod Entries
pub mod Imports
pub mod Order
pub mod Runs
pub mod Scenes
pub mod Store
