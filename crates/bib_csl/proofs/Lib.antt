pub mod AppendFacts
pub mod ByteFacts
mod DoiFacts
pub mod EditorFacts
pub mod OrderFacts
pub mod SentenceFacts
pub mod SentenceLaws
pub mod StandingFacts
pub mod TagFacts
pub mod TokenFacts
