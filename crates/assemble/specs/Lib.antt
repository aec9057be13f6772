pub mod Codes
pub mod Numbers
pub mod Tables
pub mod Layout
pub mod Files
pub mod Lending
