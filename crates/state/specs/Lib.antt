pub mod Standing
pub mod Views
