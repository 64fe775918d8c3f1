pub mod Alike
pub mod Dotted
pub mod Once
pub mod Rising
pub mod Steps
pub mod Whole
