pub mod Bounds
pub mod Numbers
pub mod Answers
pub mod OpenedBytes
