pub mod Sound
pub mod Written
pub mod Cached
pub mod Faithful
pub mod Fits
pub mod Heads
pub mod CallHeadersCalls
