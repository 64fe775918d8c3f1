pub mod View
pub mod Played
pub mod Lawful
pub mod request
pub mod answer
