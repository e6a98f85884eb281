pub mod Edges
pub mod Opens
