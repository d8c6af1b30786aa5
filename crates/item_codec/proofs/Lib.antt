pub mod Numbers
pub mod Widths
pub mod FieldLaws
mod Examples
pub mod RecordLaws
pub mod Parts
