pub mod Cells
pub mod Copies
pub mod Forgets
pub mod Enough
