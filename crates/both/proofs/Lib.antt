pub mod Judging
pub mod Levels
