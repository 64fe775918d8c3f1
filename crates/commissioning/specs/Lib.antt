pub mod Asked
pub mod Place
pub mod Named
pub mod Record
