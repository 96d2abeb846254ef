pub mod LinesLemmas
pub mod CountsLemmas
pub mod ListsLemmas
