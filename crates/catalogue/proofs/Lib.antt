pub mod Chains
pub mod InRange
pub mod Places
pub mod Within
