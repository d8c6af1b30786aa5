mod ServingExamples
mod WrittenConnections
pub mod Answers
pub mod Coming
pub mod Digits
pub mod Examples
pub mod Framings
pub mod Fronts
pub mod Heads
pub mod Lists
pub mod Looks
pub mod OnLiterals
pub mod Pieces
pub mod Readings
pub mod Running
pub mod Runs
pub mod Serves
pub mod Serving
pub mod Shapes
pub mod Steps
pub mod Stops
pub mod Values
pub mod Visits
