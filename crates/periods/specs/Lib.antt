pub mod Period
pub mod Square
pub mod Edition
pub mod Part
pub mod Width
