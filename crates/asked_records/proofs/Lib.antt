pub mod Valid
pub mod Later
pub mod Runs
