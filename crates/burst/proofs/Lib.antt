pub mod Rows
pub mod Rules
pub mod Numbers
pub mod Puts
pub mod Answers
pub mod Parts
