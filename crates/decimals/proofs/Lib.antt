pub mod Claims
pub mod Fields
pub mod Loops
pub mod Examples
