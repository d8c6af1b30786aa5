mod Examples
pub mod Counts
pub mod EditLaws
pub mod EntryBounds
pub mod ImportLaws
pub mod ItemLaws
pub mod Parts
pub mod PolicyLaws
pub mod ReadFiles
pub mod SoundFiles
pub mod SoundLaws
pub mod ToldFiles
