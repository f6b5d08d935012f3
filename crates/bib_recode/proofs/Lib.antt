pub mod LineEndFacts
pub mod UnitFacts
