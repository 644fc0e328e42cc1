pub mod Match
pub mod Filled
