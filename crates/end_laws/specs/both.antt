pub mod Small
pub mod Runs
pub mod Steps
pub mod StartUp
pub mod Outputs
