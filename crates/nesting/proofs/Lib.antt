pub mod Lists
pub mod Levels
pub mod Runs
pub mod Bodies
pub mod Orders
pub mod Visits
