pub mod BindingLaws
pub mod Examples
pub mod FirstRuling
pub mod KeyLaws
pub mod OnLiterals
pub mod SortKeyLaws
pub mod Parts
