pub mod Numerals
pub mod Lengths
pub mod ReadLengths
