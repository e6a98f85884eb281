pub mod Demands
pub mod Entering
