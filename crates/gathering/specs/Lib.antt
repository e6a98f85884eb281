pub mod Afterwards
pub mod Block
pub mod Selected
