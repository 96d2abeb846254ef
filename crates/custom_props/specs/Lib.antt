pub mod Views
pub mod EnvView
pub mod Order
pub mod inner
