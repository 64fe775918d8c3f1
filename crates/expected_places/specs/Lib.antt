pub mod Places
pub mod Calls
pub mod Machine
pub mod Called
pub mod Events
