pub mod Views
pub mod Rules
pub mod Rooms
pub mod inner
