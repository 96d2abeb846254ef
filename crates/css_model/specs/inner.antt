-- Tokens and components found by computing. What they are is said in the files beside this one;
-- these are ways to find them, and laws say that they do.
pub mod Fronts
pub mod Pieces
pub mod Nesting
pub mod Examples
