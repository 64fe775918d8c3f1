pub mod Blocks
pub mod Parted
