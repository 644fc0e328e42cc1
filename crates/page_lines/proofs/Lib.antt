pub mod Columns
pub mod LineClaims
pub mod Examples
