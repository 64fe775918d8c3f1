pub mod Call
pub mod Unserved
