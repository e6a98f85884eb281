pub mod Strips
pub mod Walking
