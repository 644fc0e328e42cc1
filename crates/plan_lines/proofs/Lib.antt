pub mod Loops
pub mod LineClaims
pub mod Examples
