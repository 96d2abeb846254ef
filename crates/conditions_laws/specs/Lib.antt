pub mod Known
pub mod Negations
pub mod Spelled
