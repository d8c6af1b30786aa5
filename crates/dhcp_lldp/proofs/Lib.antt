mod DhcpExamples
mod LldpExamples
pub mod OnLiterals
pub mod OptionListing
pub mod OptionWalk
pub mod TlvListing
pub mod TlvWalk
pub mod Parts
