pub mod ChainStyles
pub mod IsPathAbove
pub mod IsUnbuilt
pub mod InContainer
