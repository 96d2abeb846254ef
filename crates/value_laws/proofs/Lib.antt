pub mod Colors
pub mod Computed
pub mod Found
pub mod Longhands
pub mod Places
pub mod ShorthandValues
pub mod Values
