pub mod Accepts
mod Records
