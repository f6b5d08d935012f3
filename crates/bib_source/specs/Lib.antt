pub mod Encoding
pub mod Positions
pub mod Comparison
pub mod Hunks
pub mod Lines
pub mod Unified
pub mod Merging
pub mod Visible
