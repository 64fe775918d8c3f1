pub mod Numbers
pub mod Steps
pub mod Runs
pub mod Places
pub mod Accepted
