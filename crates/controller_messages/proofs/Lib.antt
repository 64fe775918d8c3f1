pub mod Elsewhere
pub mod Groups
pub mod Refusals
