pub mod Front
pub mod Verdicts
pub mod Reader
