pub mod Priority
pub mod Report
pub mod Message
