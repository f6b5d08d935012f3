pub mod Letters
pub mod Names
pub mod People
pub mod PersonOrder
pub mod Kept
pub mod WordKinds
