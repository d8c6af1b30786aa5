pub mod Lists
pub mod Exported
pub mod Sources
pub mod Store
