-- What private functions cite: words of queries, and pieces between commas.
pub mod Commas
pub mod Words
