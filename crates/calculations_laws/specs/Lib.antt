pub mod ComputedLengths
pub mod LengthTexts
