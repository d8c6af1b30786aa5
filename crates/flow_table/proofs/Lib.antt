pub mod Histories
pub mod PairLaws
pub mod KeyLaws
pub mod HeldLaws
pub mod SlotLaws
mod Walks
