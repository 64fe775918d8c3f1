pub mod Listed
pub mod Sizes
pub mod ChangedLists
pub mod ChangedModules
