pub mod Operation
pub mod Status
