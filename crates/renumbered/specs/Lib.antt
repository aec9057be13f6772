pub mod Numbering
pub mod Layer
pub mod Laws
