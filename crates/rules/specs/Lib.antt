pub mod Lists
pub mod Rules
pub mod Admission
