pub mod Search
pub mod InPlace
pub mod Claims
pub mod Pairs
pub mod BlockUnit
pub mod Squares
pub mod UnitsTable
pub mod Editions
pub mod Widths
pub mod PartClaims
pub mod Determined
mod Units
pub mod Words
pub mod Examples
