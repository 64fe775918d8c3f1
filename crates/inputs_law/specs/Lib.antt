pub mod Shown
pub mod Given
