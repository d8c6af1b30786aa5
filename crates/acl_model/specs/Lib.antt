pub mod Changes
pub mod Defaults
pub mod FirstMatch
pub mod Keys
pub mod Match
pub mod SortKeys
pub mod Policies
pub mod TcpFlags
