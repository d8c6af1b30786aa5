pub mod ImportLaws
pub mod Parts
pub mod ServingLaws
