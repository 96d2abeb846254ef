pub mod Parts
pub mod Texts
pub mod Accepted
pub mod Values
pub mod Order
pub mod RuleLists
pub mod DeclarationLists
