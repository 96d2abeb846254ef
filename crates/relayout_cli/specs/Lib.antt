pub mod Statuses
pub mod Sheets
pub mod Pages
pub mod Runs
pub mod Words
pub mod inner
