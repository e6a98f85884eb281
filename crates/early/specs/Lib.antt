pub mod Earlier
pub mod Hatched
