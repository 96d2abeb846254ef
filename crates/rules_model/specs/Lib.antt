pub mod ComponentLists
pub mod Declarations
pub mod Rules
pub mod PreludeText
pub mod Sheets
pub mod inner
