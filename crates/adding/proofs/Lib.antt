pub mod Cells
pub mod Each
pub mod Stays
pub mod OneMore
pub mod NewName
