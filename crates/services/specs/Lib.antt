pub mod State
pub mod Message
pub mod Echo
pub mod Views
pub mod Answer
pub mod Run
pub mod Leaps
pub mod Concern
