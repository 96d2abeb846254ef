pub mod Conversions
pub mod Limits
