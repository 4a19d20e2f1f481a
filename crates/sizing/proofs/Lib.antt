pub mod Numbers
pub mod Plans
pub mod Alike
pub mod Fits
pub mod Cards
