pub mod Errors
pub mod Inheritance
pub mod Parents
pub mod Resolved
pub mod Uninherited
pub mod Views
pub mod Working
