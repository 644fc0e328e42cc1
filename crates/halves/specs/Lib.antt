pub mod Scratch
pub mod Found
pub mod Kept
