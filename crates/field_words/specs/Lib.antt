pub mod Octets
pub mod Cyclic
