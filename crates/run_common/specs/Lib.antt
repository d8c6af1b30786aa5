pub mod Output
pub mod Ends
pub mod Moments
pub mod Status
pub mod Stops
