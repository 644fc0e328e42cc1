pub mod Pieces
pub mod Rules
mod LongBlocks
pub mod FillLaws
mod Windows
mod Visits
mod Passing
pub mod Filled
pub mod Lengths
pub mod BestClaims
pub mod JudgeClaims
pub mod Determined
pub mod Cases
