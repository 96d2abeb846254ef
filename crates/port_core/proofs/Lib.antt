pub mod CollectsLemmas
pub mod CountsLemmas
pub mod LinesLemmas
pub mod MemoryLemmas
pub mod ReadsLemmas
pub mod StreamLemmas
mod CharLemmas
