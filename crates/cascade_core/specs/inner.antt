-- What private functions cite.
pub mod Media
pub mod Drafts
pub mod BothTables
pub mod Matches
pub mod Strength
pub mod Customs
pub mod Mades
pub mod Answers
