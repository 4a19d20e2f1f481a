pub mod Inverse
pub mod Inverses
pub mod Words
pub mod Driven
pub mod WorkedBack
