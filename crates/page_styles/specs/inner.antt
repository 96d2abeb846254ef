-- What private functions cite.
pub mod Sources
