-- What private functions cite.
pub mod Customs
