mod Examples
pub mod JumpLaws
pub mod NameLaws
pub mod ObservedLaws
pub mod OnLiterals
pub mod RowLaws
pub mod RowWalks
pub mod Runs
pub mod Walks
pub mod Parts
