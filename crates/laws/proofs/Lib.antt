pub mod Tests
pub mod OneOrTwo
pub mod Stores
pub mod Pigeon
