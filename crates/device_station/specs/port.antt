pub mod Own
pub mod Pace
pub mod Refusals
pub mod Served
pub mod ServedSteps
pub mod State
pub mod Steps
