pub mod Packs
pub mod Empty
