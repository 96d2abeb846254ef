pub mod Strength
pub mod Targets
pub mod Winning
pub mod Values
pub mod Later
pub mod Parentless
pub mod AreStyled
pub mod TreeStyles
