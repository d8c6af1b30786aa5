pub mod NamedRuns
pub mod Runs
pub mod StoreKeepers
pub mod TwoRuns
