pub mod Bytes
pub mod Ruling
pub mod Selecting
pub mod Short
pub mod Judgements
pub mod Turns
