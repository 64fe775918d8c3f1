pub mod Sent
pub mod World
