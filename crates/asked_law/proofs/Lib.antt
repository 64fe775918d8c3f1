pub mod Keeping
pub mod Turns
pub mod Given
pub mod Runs
