-- What private functions cite: what was read of calculations.
pub mod CalcValues
pub mod CalcItems
pub mod Sums
pub mod Calls
pub mod Fronts
pub mod Sameness
