pub mod Full
pub mod Breaking
pub mod Around
pub mod Parts
pub mod Places
pub mod Tags
pub mod Wanting
