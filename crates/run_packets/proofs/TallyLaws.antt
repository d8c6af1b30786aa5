mod Examples
pub mod RulingLaws
pub mod SameCaptures
pub mod Stepped
pub mod TextLaws
