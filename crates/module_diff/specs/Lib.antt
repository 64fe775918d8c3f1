pub mod Plugged
pub mod Changes
pub mod Rows
pub mod Diff
