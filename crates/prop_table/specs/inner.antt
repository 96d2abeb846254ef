-- What private functions cite.
pub mod FormViews
pub mod HexDigits
pub mod WordSteps
pub mod ShorthandViews
pub mod SideWords
pub mod BorderViews
pub mod Slashes
