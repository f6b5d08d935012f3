pub mod Conversions
pub mod Dates
pub mod Joined
pub mod Laws
pub mod Notes
pub mod Rules
pub mod Tables
pub mod Types
