pub mod Snoop
pub mod Tally
