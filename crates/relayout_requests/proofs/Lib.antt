pub mod MembersLemmas
pub mod LineLemmas
