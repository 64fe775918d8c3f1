pub mod Handled
pub mod Single
pub mod Naming
