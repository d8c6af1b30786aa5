pub mod RowExamples
pub mod Dues
pub mod Runs
pub mod Examples
pub mod ExportLaws
pub mod Parts
