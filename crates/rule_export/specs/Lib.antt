pub mod Flags
pub mod Listed
pub mod Networks
pub mod Objects
pub mod Resolved
pub mod Ruling
pub mod Tests
pub mod Text
