pub mod Sound
pub mod Filter
