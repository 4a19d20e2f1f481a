pub mod Rules
pub mod Opens
pub mod Fields
pub mod Parts
pub mod Marks
pub mod Answers
