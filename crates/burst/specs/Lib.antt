pub mod Fields
pub mod Editions
pub mod Parts
pub mod Layout
pub mod Numbers
pub mod Index
pub mod Recorder
