pub mod Cause
pub mod State
pub mod Outputs
pub mod Alarms
pub mod Opening
