pub mod Cuts
pub mod Ranks
pub mod Sorted
pub mod Steps
