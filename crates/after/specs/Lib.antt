pub mod Begins
pub mod Hatching
