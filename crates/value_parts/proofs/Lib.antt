pub mod Products
pub mod Tables
