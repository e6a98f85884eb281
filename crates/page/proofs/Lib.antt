pub mod Pages
pub mod Saves
pub mod Stacks
