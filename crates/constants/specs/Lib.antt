pub mod Keccak
pub mod Words
pub mod Tables
pub mod KnownLanes
