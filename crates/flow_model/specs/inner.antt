-- What examples cite.
pub mod Examples
