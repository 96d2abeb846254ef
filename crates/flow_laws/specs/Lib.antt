pub mod Fits
pub mod Plain
pub mod Unions
