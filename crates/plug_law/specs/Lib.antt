pub mod Written
pub mod Plugged
