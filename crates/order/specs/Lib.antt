pub mod Pictures
pub mod Views
