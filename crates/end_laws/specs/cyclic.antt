pub mod Ends
pub mod Device
pub mod Controller
