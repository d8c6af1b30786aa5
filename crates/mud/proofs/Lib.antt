pub mod NamedRuns
pub mod Parts
pub mod TwoRuns
