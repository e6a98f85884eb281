pub mod Clean
pub mod Keeping
pub mod Kept
pub mod Obeyed
pub mod Rows
pub mod Rules
pub mod Ways
