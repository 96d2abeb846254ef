pub mod HeightSteps
pub mod RowSteps
pub mod ValueThere
