pub mod Lists
pub mod Left
pub mod Order
