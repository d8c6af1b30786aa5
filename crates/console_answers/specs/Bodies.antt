pub mod Outcomes
pub mod Heards
pub mod Verdicts
