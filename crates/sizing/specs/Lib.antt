pub mod Sizing
pub mod Cards
pub mod Plans
pub mod Sums
