pub mod Small
pub mod Orderly
pub mod Owed
pub mod Does
pub mod Exchange
pub mod Turn
