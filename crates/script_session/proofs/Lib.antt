pub mod Coming
mod OnePlan
pub mod Flashes
pub mod Obeying
pub mod Ticking
pub mod Begins
pub mod Leaping
pub mod Stepping
pub mod AnyFlash
