pub mod Spelling
pub mod DumpText
pub mod RulesText
pub mod MatchText
pub mod ValueTexts
pub mod StyleText
pub mod Replies
pub mod inner
