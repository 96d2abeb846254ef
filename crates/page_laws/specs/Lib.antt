pub mod Ids
pub mod ChildLists
pub mod Limits
