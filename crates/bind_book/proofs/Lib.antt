pub mod SoFar
pub mod BookItems
pub mod Plans
pub mod ClassPlans
pub mod NamePlans
pub mod LocalPlans
pub mod ReadLaws
pub mod TakeLaws
mod Examples
