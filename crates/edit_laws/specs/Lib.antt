pub mod Alike
pub mod DefinedAlike
pub mod OneField
pub mod Renamed
pub mod SameEntries
pub mod WithoutEntry
