-- What private functions cite: words, and what was read of a condition.
pub mod Words
pub mod Drafts
