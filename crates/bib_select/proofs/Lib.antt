pub mod CompileFacts
pub mod GrammarFacts
pub mod JoinedFacts
pub mod OneCutFacts
pub mod ParseFacts
pub mod SegmentFacts
pub mod TokenFacts
