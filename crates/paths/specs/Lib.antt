pub mod Graph
pub mod LookUp
pub mod Walk
pub mod Calls
