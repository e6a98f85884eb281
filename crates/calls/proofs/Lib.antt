pub mod Marking
pub mod Rounding
pub mod Ringing
pub mod Refusing
pub mod Wanting
pub mod Baring
pub mod Knowing
