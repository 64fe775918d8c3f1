pub mod Own
pub mod Alarms
