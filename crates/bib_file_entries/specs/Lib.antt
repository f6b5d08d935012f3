pub mod Claiming
pub mod Bibliography
pub mod Keeping
pub mod Kept
pub mod Loaded
pub mod Loading
pub mod Reading
