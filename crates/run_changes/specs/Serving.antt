pub mod Store
pub mod Replay
pub mod Serve
