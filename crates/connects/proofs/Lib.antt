mod RequestsAccepted
mod RequestsHandled
mod RequestsIntervals
mod RequestsRead
pub mod AnswersBlocks
pub mod AnswersReading
