pub mod Measure
pub mod Calls
