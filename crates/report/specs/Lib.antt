pub mod Text
pub mod Records
pub mod Meaning
