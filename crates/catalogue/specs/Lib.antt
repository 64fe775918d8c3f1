pub mod AccessPoints
pub mod Catalogues
pub mod Kept
pub mod Modules
pub mod Projects
pub mod Slots
pub mod Submodules
pub mod keys
