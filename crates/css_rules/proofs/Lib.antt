pub mod Parts
pub mod Ends
pub mod Marks
pub mod Values
pub mod Texts
pub mod FoundRules
