pub mod Nested
pub mod inner
pub mod Words
