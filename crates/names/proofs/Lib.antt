pub mod Bytes
pub mod Entries
pub mod Probes
pub mod Twins
