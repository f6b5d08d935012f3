pub mod Braces
pub mod Characters
pub mod Enums
pub mod Lending
pub mod OpenBraces
pub mod Places
pub mod Runs
