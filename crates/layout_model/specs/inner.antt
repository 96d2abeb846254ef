-- Words of the examples.
pub mod Examples
