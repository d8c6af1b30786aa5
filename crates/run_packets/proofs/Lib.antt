pub mod Parts
pub mod SnoopLaws
pub mod TallyLaws
