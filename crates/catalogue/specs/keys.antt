pub mod Keys
pub mod Placed
pub mod Reader
