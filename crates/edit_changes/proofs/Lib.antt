pub mod FieldFacts
pub mod LawFacts
pub mod ListFacts
