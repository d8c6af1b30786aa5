pub mod CompiledLaws
pub mod UrlSlotLaws
pub mod PlanLaws
pub mod SlotLaws
mod TextOrder
mod Leads
mod Examples
