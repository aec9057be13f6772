pub mod Accepts
pub mod Fits
pub mod Refusing
pub mod Renumbered
