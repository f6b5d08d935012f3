pub mod Abbreviations
pub mod Expanding
