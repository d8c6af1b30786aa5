pub mod Left
pub mod Refusals
pub mod Replays
pub mod Serves
