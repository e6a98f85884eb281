pub mod Classes
pub mod Keys
