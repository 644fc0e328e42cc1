pub mod Factorization
pub mod Choice
pub mod Verdict
pub mod Table
