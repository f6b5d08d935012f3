pub mod Calls
pub mod Recovered
pub mod Statuses
