pub mod Known
pub mod Playing
pub mod Silent
