pub mod Alike
pub mod Blocks
pub mod Distinct
pub mod Kept
pub mod Versions
pub mod Views
