pub mod Ascii
mod Cut
mod Identifiers
mod FirstPlace
mod Sorting
pub mod Hex
pub mod Decimals
