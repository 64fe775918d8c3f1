pub mod Sound
pub mod Lengths
pub mod Requests
pub mod Replies
pub mod Facts
pub mod Runs
pub mod Leaping
pub mod Concerns
