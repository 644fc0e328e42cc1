pub mod Piece
pub mod Best
pub mod Judge
pub mod Rule
pub mod Fill
pub mod Window
