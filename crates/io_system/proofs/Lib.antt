pub mod FirstOctets
pub mod Folders
pub mod Kept
