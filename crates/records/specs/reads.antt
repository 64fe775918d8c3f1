pub mod Parameters
pub mod Answer
pub mod Handled
pub mod Listing
pub mod Within
