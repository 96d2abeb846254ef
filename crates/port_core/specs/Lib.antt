pub mod Text
pub mod Ports
pub mod Memory
pub mod Standard
pub mod Reader
pub mod inner
