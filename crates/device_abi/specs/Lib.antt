pub mod Confirmed
pub mod Made
pub mod Reasons
pub mod Serves
pub mod Stations
pub mod Submodules
pub mod Host
pub mod Plays
