pub mod Measures
pub mod CallClaims
pub mod Determined
pub mod Claims
pub mod Examples
