pub mod Channel
pub mod Pulled
pub mod Reported
pub mod Followed
