pub mod BibliographyFacts
pub mod KeepingFacts
pub mod LoadedFacts
pub mod LoadingFacts
pub mod MendingFacts
pub mod RawFacts
