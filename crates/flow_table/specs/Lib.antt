pub mod Noted
pub mod Kept
pub mod Pairs
pub mod Slots
pub mod Keys
pub mod Held
