pub mod Shots
pub mod Seals
pub mod Agreement
