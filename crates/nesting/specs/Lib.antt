pub mod Nesting
pub mod Order
