pub mod Lists
pub mod Streams
pub mod Lines
pub mod Ledger
