pub mod Decoded
pub mod Encodings
pub mod LineEnds
pub mod Units
