pub mod EditedFacts
pub mod LeftNoteFacts
mod UninheritedNoteFacts
