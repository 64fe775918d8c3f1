pub mod Demo
pub mod Ends
pub mod Said
pub mod Power
pub mod Session
pub mod Off
