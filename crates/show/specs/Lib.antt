pub mod Text
pub mod Generator
pub mod Cases
