pub mod Connections
pub mod Doors
pub mod MemoryDoors
pub mod Wholes
pub mod Wires
pub mod ItemLaws
mod ItemExamples
pub mod Parts
