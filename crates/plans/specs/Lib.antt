pub mod Packed
pub mod Identity
pub mod Parts
pub mod Numbers
pub mod Connect
pub mod Plan
