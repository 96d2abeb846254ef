-- What private functions cite: how the code sees what css_model defines, and the states of its loops.
pub mod Classes
pub mod Texts
pub mod Parts
pub mod Numerals
pub mod Replacing
pub mod Found
pub mod Left
pub mod OpenBrackets
