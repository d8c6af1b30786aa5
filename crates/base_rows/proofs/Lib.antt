pub mod AddressLaws
pub mod AscendLaws
pub mod ChangeLaws
pub mod Digits
pub mod EditLaws
pub mod EditRunLaws
mod IndexAmong
pub mod IndexLaws
mod Lent
pub mod ListTests
pub mod Lists
pub mod MergeLaws
pub mod Orders
pub mod SortableLaws
pub mod ProbeLaws
pub mod Results
pub mod RowLaws
pub mod RowSets
pub mod RunLaws
pub mod SearchLaws
pub mod Parts
