pub mod Asked
pub mod Hearing
pub mod Judging
pub mod LearntRows
pub mod SameCaptures
pub mod Snooped
pub mod Statuses
pub mod Stored
