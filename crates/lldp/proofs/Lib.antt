pub mod Sound
pub mod Ethernet
pub mod Written
pub mod Leaping
pub mod Hearing
pub mod Runs
pub mod Announced
