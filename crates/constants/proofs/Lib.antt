pub mod Lists
pub mod Lanes
pub mod OneBit
pub mod IotaConstant
pub mod Steps
pub mod Rounds
pub mod Generated
