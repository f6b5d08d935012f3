pub mod Atoms
pub mod FromJson
pub mod GivenChunks
pub mod GivenEntries
pub mod GivenOf
pub mod SameEntries
pub mod WrittenSources
