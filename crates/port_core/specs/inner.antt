-- What private items alone are said to do.
pub mod Draft
pub mod Window
pub mod Reads
pub mod Past
