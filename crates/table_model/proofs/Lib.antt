mod BindExamples
mod FlowExamples
mod ItemExamples
mod RulingExamples
mod SamePrefixes
mod TakenExamples
mod ThingExamples
pub mod Alike
pub mod AloneLaws
pub mod ItemLaws
pub mod LeaseLaws
pub mod Literals
pub mod Members
pub mod Parts
pub mod ReadLaws
pub mod ReadThings
pub mod RowSets
pub mod SoundLaws
pub mod SoundThings
pub mod TakenLaws
pub mod ToldThings
pub mod TypeFacts
pub mod UrlLengths
