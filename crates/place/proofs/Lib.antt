pub mod Hatched
pub mod Standing
pub mod Starting
