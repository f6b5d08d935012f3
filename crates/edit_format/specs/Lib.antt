pub mod Delimited
pub mod Formatted
pub mod Ordered
pub mod Unlisted
pub mod Usual
