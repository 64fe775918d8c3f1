pub mod Listed
pub mod Reports
pub mod Places
pub mod Records
