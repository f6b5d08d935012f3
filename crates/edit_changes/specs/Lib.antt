pub mod Blocks
pub mod Changes
pub mod Contents
pub mod Counts
pub mod Fields
pub mod Renames
pub mod Same
pub mod Views
