pub mod Numberings
pub mod Layers
pub mod Laws
