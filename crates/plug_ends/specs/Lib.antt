pub mod Calls
pub mod Taken
pub mod Places
pub mod Told
pub mod Plugged
