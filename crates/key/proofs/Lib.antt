pub mod Packs
pub mod Marked
