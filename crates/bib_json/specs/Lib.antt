pub mod Arrays
pub mod Chunks
pub mod Dates
pub mod Entries
pub mod Fields
pub mod Objects
pub mod Values
pub mod ValueTypes
