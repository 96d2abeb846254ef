pub mod Winners
pub mod Styles
