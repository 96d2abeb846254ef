-- Words of the examples.
pub mod Examples
pub mod CalculationExamples
