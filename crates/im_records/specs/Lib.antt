pub mod Indices
pub mod Plugged
pub mod Records
pub mod Writes
pub mod Writable
pub mod Faults
