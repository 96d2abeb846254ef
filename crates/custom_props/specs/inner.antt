-- What private items alone are said to do.
pub mod Places
pub mod Reading
pub mod EntryViews
pub mod Entries
pub mod Rooms
pub mod Measures
pub mod Graphs
pub mod Walks
pub mod Tables
pub mod Merging
pub mod TokenParts
