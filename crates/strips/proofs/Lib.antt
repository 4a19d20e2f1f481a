pub mod Machine
pub mod Numbers
pub mod Turns
pub mod Answers
