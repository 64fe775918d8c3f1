pub mod Left
pub mod Leaps
pub mod Ranges
pub mod Numbers
pub mod HostTurns
pub mod HostRuns
