pub mod Claims
pub mod Same
