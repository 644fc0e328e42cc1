pub mod Claims
pub mod Values
pub mod Examples
