pub mod ComputedForms
pub mod inner
