pub mod Lengths
pub mod Turns
pub mod Words
pub mod View
pub mod Filled
