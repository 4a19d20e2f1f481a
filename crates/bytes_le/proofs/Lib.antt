pub mod Laws
pub mod Loads
pub mod All
pub mod Same
