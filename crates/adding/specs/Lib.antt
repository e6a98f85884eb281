pub mod Rowing
pub mod Comes
