pub mod Joined
pub mod Blocks
pub mod Selecting
pub mod Storing
pub mod Ending
