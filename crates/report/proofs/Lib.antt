pub mod Lines
pub mod Splits
pub mod Reports
pub mod Determined
pub mod Examples
