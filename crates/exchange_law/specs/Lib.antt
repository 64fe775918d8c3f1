pub mod Told
pub mod Interval
pub mod Outputs
pub mod Run
