pub mod Machine
pub mod Faults
pub mod Handled
pub mod Applied
pub mod OfKind
pub mod Sendable
pub mod Served
pub mod Lists
pub mod Placed
pub mod Steps
mod Storing
pub mod Called
mod RealKept
mod AskedKept
mod Repeats
pub mod Runs
pub mod Restarts
pub mod Exchanged
mod Rated
mod Counting
mod Unnamed
mod Changing
pub mod Leaping
mod SteadyUnits
mod Logged
mod Diagnosed
pub mod OpenAlarm
mod Replies
pub mod Numbered
