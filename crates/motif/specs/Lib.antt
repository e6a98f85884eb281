pub mod Before
pub mod Sorted
pub mod Held
pub mod Search
pub mod Tables
pub mod Stored
