pub mod StyleValues
