pub mod Collected
pub mod Collecting
pub mod Exchanged
pub mod Expanded
pub mod Left
pub mod Tables
pub mod Views
