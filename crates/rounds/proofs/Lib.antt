pub mod Levels
pub mod Called
pub mod Rounded
