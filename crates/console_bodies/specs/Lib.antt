pub mod Bodies
pub mod Laws
pub mod Members
pub mod Objects
pub mod Statements
pub mod Values
