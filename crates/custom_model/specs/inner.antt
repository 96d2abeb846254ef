-- Ways to find what the files beside this one say, and words of the examples.
pub mod Finding
pub mod Examples
