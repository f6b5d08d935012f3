pub mod CutFacts
pub mod JoinFacts
pub mod UnitFacts
