pub mod Carries
pub mod Faults
pub mod Legal
pub mod Machine
pub mod State
