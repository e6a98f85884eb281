pub mod Defining
pub mod Going
pub mod Storing
