-- What private contracts cite.
pub mod Flat
pub mod Frames
pub mod Walk
pub mod Elements
pub mod Dumps
pub mod MatchReplies
pub mod RuleLines
pub mod Edits
pub mod Coming
pub mod Turns
pub mod Examples
pub mod StyleReplies
