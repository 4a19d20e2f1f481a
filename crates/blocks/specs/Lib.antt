pub mod Lengths
pub mod Contexts
pub mod Sealing
pub mod Ways
pub mod WayLaws
pub mod Bounds
