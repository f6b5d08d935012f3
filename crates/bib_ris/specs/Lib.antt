pub mod Bare
pub mod Dates
pub mod Lines
pub mod Pages
pub mod People
pub mod Records
pub mod Types
