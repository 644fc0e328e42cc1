pub mod Judged
pub mod CallClaims
pub mod Determined
pub mod OneLine
pub mod Examples
