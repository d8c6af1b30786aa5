pub mod Captured
pub mod Fault
pub mod Next
pub mod Packets
pub mod Parts
pub mod Reading
pub mod CaptureState
