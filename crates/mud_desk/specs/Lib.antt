pub mod Answers
pub mod DeskState
pub mod Findings
pub mod RuleInputs
pub mod Stays
pub mod Items
