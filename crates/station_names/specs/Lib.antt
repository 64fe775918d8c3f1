pub mod NameFault
pub mod Found
pub mod Valid
