pub mod Heard
pub mod Hearing
pub mod Sent
pub mod Relation
pub mod Notes
pub mod Sendable
