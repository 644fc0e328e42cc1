pub mod Forms
pub mod PageClaims
pub mod CallClaims
pub mod Determined
pub mod Examples
