pub mod Blocks
pub mod BestClaims
pub mod JudgeClaims
pub mod Determined
pub mod Examples
