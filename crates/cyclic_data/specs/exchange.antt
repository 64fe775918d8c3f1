pub mod Cyclic
pub mod Opening
pub mod Units
pub mod Received
pub mod Process
pub mod Frames
pub mod Runs
pub mod Leaps
