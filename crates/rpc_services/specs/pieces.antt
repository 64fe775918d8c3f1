pub mod Piece
pub mod State
pub mod Run
pub mod Split
pub mod Views
pub mod Leaps
