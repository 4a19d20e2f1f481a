pub mod Cases
pub mod Xor
pub mod Tests
pub mod Laws
