pub mod Parser
pub mod Operands
pub mod Words
