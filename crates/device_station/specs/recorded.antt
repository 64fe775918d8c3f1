pub mod Entry
pub mod Fits
pub mod Laws
pub mod Pushed
pub mod Record
