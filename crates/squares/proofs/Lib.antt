pub mod CallClaims
pub mod Determined
pub mod Most
pub mod Examples
