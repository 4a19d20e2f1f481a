pub mod Rounds
pub mod ThereAndBack
