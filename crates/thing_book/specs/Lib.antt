pub mod Planned
pub mod RowChanges
pub mod Changes
pub mod Numbers
pub mod Said
