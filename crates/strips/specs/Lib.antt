pub mod Machine
pub mod Answers
