pub mod StatusStatuses
pub mod Several
