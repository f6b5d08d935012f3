pub mod AndFacts
pub mod AndListFacts
pub mod CutFacts
pub mod FormattedFacts
pub mod PartFacts
pub mod SeparatedFacts
pub mod SpanFacts
pub mod StandFacts
pub mod StyledFacts
pub mod TrimFacts
pub mod ValueFacts
pub mod WholeFacts
pub mod WordFacts
pub mod WrittenFacts
pub mod JoinedFacts
pub mod ListFacts
mod SettledFacts
