pub mod Heads
pub mod Kept
pub mod Rooms
pub mod Statuses
pub mod Texts
pub mod Bodies
