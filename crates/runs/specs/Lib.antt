pub mod Run
pub mod Table
pub mod Listing
pub mod Number
pub mod Calls
