pub mod Commits
pub mod Planned
pub mod StepLaws
pub mod VerdictLaws
pub mod ReadLaws
pub mod TakeLaws
mod Examples
