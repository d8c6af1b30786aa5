pub mod BindingParts
pub mod BindingBuckets
pub mod RowParts
pub mod RowBuckets
