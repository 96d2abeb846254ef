pub mod States
pub mod Logs
pub mod Scripts
pub mod ValueTexts
