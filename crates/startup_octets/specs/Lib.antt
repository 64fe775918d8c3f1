pub mod StartUp
pub mod Played
pub mod Log
pub mod Run
pub mod Alarms
pub mod Outputs
pub mod OutputWorlds
