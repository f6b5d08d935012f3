pub mod Enumerations
pub mod Joining
pub mod Lists
pub mod Numbers
pub mod Permissive
pub mod Ranges
pub mod Roman
pub mod RomanLetters
