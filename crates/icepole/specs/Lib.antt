pub mod Variants
pub mod Answers
