pub mod Judged
pub mod Marks
