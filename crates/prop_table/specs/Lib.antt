pub mod Views
pub mod Styles
pub mod inner
