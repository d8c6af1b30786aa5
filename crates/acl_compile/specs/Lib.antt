pub mod Compiled
pub mod Plans
pub mod UrlSlots
