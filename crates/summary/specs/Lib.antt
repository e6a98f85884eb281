pub mod Balance
pub mod Sums
