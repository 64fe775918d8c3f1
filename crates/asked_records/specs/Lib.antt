pub mod Names
pub mod Questions
pub mod Asked
pub mod Answers
pub mod Runs
pub mod Judging
