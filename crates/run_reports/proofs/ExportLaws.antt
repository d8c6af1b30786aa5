pub mod Results
pub mod Things
pub mod Runs
