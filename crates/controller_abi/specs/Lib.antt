pub mod Host
pub mod Outputs
pub mod Plans
pub mod Plays
pub mod Serves
pub mod State
pub mod Steps
pub mod Tool
