pub mod RowSolutions
pub mod SeenSets
pub mod Closed
pub mod Below
pub mod RunningSets
