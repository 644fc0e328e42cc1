pub mod Starts
pub mod Ready
