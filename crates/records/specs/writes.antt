pub mod Answer
pub mod Taken
pub mod Handled
pub mod Entry
pub mod Several
pub mod Asked
