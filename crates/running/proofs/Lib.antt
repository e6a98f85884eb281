pub mod Alone
pub mod EndPoint
pub mod Runs
