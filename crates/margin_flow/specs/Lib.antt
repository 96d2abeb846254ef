pub mod Room
pub mod PlacedView
pub mod inner
