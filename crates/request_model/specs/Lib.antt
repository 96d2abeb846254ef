pub mod Requests
pub mod UnbuiltStyles
pub mod States
pub mod inner
