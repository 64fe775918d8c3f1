pub mod Stations
pub mod Hearing
