pub mod Books
pub mod Changes
pub mod CompiledDesk
pub mod InBooks
pub mod Planned
pub mod Policies
pub mod RowPlans
