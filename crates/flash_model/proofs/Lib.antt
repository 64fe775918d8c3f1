pub mod ImageLemmas
mod TornSectors
mod TornLemmas
mod TornLoop
mod Written
