pub mod AreParts
pub mod HexColors
pub mod FinalValues
pub mod FourSides
pub mod StyleView
pub mod BorderSides
pub mod Slashes
