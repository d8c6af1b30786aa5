mod CountLaws
pub mod Examples
mod FirstLaws
pub mod FirstRows
mod KeptLaws
pub mod LedgerLaws
mod LeftLaws
pub mod NumberLaws
pub mod SortKeyOrder
pub mod RowSteps
pub mod TallyLaws
pub mod Parts
