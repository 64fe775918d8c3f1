pub mod Octets
pub mod Suites
