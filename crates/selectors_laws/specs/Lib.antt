pub mod Members
pub mod Chains
pub mod Closures
pub mod Lists
pub mod Positions
