pub mod Pieces
pub mod WithoutOr
