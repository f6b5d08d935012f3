pub mod Orders
pub mod Letters
pub mod Years
pub mod People
pub mod Values
pub mod Fields
pub mod Places
