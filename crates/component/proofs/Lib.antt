pub mod Answers
pub mod Codes
pub mod Exchange
pub mod Firsts
pub mod Tables
