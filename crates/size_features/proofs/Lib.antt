pub mod Parts
pub mod PlainNames
pub mod Ratios
pub mod Sides
pub mod Trimmed
