pub mod Meaning
pub mod Answers
pub mod Codes
pub mod Refusals
pub mod Exchange
pub mod Words
