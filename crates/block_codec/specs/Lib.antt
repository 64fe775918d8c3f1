pub mod Kinds
pub mod Block
pub mod Reader
pub mod Writable
