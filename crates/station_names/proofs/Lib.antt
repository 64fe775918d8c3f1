pub mod Faults
pub mod Labels
pub mod Lists
pub mod Rows
pub mod SingleLabel
pub mod Valid
