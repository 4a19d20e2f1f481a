pub mod Returned
pub mod StripCalls
