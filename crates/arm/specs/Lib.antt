pub mod Codes
pub mod Holds
pub mod Rows
