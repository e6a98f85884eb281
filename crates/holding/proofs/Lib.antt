pub mod Swapped
pub mod Moves
pub mod Laying
pub mod Exchanged
