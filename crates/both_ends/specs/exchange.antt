pub mod Shown
pub mod Given
pub mod Sized
pub mod Over
pub mod Together
pub mod Told
