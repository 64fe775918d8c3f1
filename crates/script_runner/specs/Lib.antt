pub mod Fault
pub mod Output
pub mod Script
pub mod Reported
pub mod Planned
