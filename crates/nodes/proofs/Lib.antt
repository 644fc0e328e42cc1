pub mod WhiteNodes
pub mod Marks
pub mod CallClaims
pub mod Determined
pub mod Examples
