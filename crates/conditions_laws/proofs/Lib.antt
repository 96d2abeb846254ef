pub mod Tables
pub mod TreeValues
pub mod FeatureForms
pub mod WrittenConditions
