pub mod Least
pub mod Rulings
pub mod LiveBindings
pub mod FirstRow
pub mod ByRows
pub mod OverTables
pub mod StepSums
pub mod ViewSteps
pub mod OnLiterals
mod VerdictExamples
pub mod Parts
