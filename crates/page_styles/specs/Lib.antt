pub mod Paths
pub mod Styles
pub mod inner
