pub mod Machine
pub mod Leaps
pub mod stored
pub mod start_up
pub mod Readied
pub mod Quiet
