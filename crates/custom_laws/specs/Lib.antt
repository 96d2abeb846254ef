pub mod Written
pub mod SameEntries
pub mod Reordered
