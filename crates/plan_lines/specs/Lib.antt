pub mod Kinds
pub mod Line
