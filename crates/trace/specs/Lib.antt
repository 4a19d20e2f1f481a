pub mod Plain
pub mod Seals
pub mod Trace
pub mod Agreement
