pub mod EndPoint
