pub mod KeptLemmas
pub mod Lengths
pub mod Quotes
pub mod BodiesLaws
pub mod Parts
