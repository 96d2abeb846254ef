-- What private functions cite: what is left of components that are read, where their parts end, and
-- what was found.
pub mod Reading
pub mod Found
