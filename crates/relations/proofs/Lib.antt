pub mod Kept
mod Held
mod Moves
mod Own
mod Waiting
pub mod Leaps
mod ExchangeAwaited
mod ExchangeNoneAwaited
pub mod ExchangeKept
pub mod ExchangeRuns
pub mod ExchangeInputs
mod ExchangeShut
pub mod ExchangeLeaps
mod ExchangeCalm
mod SteadyRuns
mod SteadyKept
mod DueLater
mod DueReceived
mod Changed
mod InputsDue
