pub mod Honest
pub mod Judged
pub mod Refused
pub mod Store
