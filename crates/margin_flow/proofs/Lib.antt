pub mod RunningContents
pub mod PlacingSteps
