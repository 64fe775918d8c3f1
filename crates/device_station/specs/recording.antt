pub mod Calls
pub mod Recorded
pub mod Leaps
