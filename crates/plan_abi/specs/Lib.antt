pub mod Places
pub mod Readings
