pub mod Asked
pub mod Calls
pub mod Fate
pub mod Image
pub mod Memory
pub mod MemoryLaws
pub mod Torn
