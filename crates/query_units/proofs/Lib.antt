pub mod Quotients
pub mod Tables
pub mod FrontCalculations
pub mod Mentions
pub mod SumSteps
pub mod CallSteps
pub mod Same
pub mod ListedSteps
