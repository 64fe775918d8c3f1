pub mod status
pub mod calls
pub mod reads
pub mod writes
