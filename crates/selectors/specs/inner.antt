-- What only private functions cite.
pub mod Atoms
pub mod Drafts
pub mod Fronts
pub mod Numbers
pub mod Functions
pub mod ElementsIn
pub mod Names
pub mod Siblings
pub mod Walks
