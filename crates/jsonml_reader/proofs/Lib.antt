pub mod AttributesOf
pub mod TreesOfItems
