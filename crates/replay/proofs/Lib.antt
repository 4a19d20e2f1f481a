pub mod Scripts
pub mod Turns
pub mod Whole
