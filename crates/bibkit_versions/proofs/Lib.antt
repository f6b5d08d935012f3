pub mod MergeFacts
pub mod RenamingFacts
pub mod WholeFacts
