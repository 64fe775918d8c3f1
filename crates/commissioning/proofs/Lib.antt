pub mod Alone
pub mod Belongs
