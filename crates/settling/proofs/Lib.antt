pub mod Reading
pub mod Cells
pub mod Noting
pub mod Summing
pub mod Turning
