pub mod Node
pub mod Calls
pub mod Inner
