pub mod Accents
pub mod Balance
pub mod Encoded
pub mod Pieces
pub mod Recoded
