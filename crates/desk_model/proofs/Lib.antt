pub mod SoundClasses
pub mod SoundSteps
pub mod ToldSteps
pub mod Spoken
pub mod Taking
pub mod ReadBack
pub mod ReadSound
pub mod Order
pub mod Batches
pub mod Anew
pub mod FirstBad
pub mod Keeping
pub mod Passing
pub mod Sessions
mod Examples
mod ItemExamples
mod SessionExamples
pub mod Parts
