pub mod Sound
pub mod Carried
pub mod Fitting
pub mod Short
pub mod Leaps
