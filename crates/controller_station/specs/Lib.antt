pub mod Beside
pub mod Served
pub mod Leaps
pub mod Runs
