-- What private functions cite.
pub mod Running
