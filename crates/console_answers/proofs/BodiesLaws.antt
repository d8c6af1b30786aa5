pub mod Lengths
pub mod Joins
pub mod VerdictLengths
pub mod HeardLengths
