pub mod MarkFacts
pub mod InvalidFacts
pub mod Rows
pub mod TableFacts
pub mod PositionFacts
mod ComparisonFacts
mod HunkFacts
mod LineFacts
mod NarrowFacts
mod RunFacts
mod EndFacts
mod MergeFacts
mod BetweenFacts
mod CutFacts
