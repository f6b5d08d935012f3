pub mod AbbreviationFacts
pub mod DefinitionFacts
pub mod ExpansionFacts
pub mod LawFacts
pub mod MemoFacts
pub mod PieceFacts
