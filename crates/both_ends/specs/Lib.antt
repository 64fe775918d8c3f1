pub mod startup
pub mod exchange
