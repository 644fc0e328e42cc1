pub mod Block
pub mod BestSplit
pub mod Judge
