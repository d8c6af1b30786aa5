mod Examples
pub mod Always
pub mod Items
pub mod JsonValues
pub mod NamedLists
pub mod OnLiterals
pub mod Parts
pub mod Written
