pub mod Naming
pub mod Noting
pub mod Stepping
pub mod Turning
