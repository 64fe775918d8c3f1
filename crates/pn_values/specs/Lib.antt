pub mod StationName
pub mod IpSuite
pub mod Settings
pub mod Command
pub mod demo
