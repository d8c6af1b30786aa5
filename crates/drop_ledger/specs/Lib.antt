pub mod Counted
pub mod Ledger
pub mod SortKeys
pub mod Plan
pub mod RowTypes
pub mod Seen
pub mod Steps
