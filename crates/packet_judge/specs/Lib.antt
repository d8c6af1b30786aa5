pub mod ByRows
pub mod RuleSteps
pub mod Verdicts
