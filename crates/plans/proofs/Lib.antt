pub mod Sizes
pub mod Distinct
pub mod Packed
pub mod Accepted
