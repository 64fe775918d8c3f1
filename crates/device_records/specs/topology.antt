pub mod Blocks
pub mod Port
