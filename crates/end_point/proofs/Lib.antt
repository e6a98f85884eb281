pub mod EndPoint
mod Finite
