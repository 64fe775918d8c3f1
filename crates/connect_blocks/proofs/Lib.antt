pub mod Sound
pub mod Objects
pub mod Accepted
pub mod Wanted
pub mod Diff
pub mod ModuleBlocksAccepted
pub mod Handled
