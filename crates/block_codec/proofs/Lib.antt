pub mod Sound
pub mod Accepted
pub mod Fitting
pub mod Fits
pub mod ReadBack
