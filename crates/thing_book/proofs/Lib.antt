pub mod Carried
pub mod KeptItems
pub mod StepRows
pub mod PlannedLaws
pub mod Readings
pub mod Taking
mod MacNumbers
mod NumberLaws
mod Examples
