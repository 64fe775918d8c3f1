pub mod Messages
pub mod Sized
pub mod Addressed
