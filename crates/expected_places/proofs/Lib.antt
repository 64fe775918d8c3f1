pub mod Unready
pub mod Times
pub mod Called
pub mod Released
pub mod Untouched
