pub mod Breaches
pub mod Failing
pub mod Places
