pub mod Rowed
