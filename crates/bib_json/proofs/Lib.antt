mod ArrayFacts
mod GapFacts
mod LawFacts
mod PlainFacts
pub mod ReadingFacts
