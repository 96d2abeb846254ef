pub mod References
pub mod NamedValues
pub mod Cycles
pub mod Substitution
pub mod Environments
pub mod ValueText
pub mod inner
