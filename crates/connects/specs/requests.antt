pub mod Pieces
pub mod Layouts
pub mod Request
pub mod Handled
pub mod Drafts
