mod ConvertingFacts
mod LawFacts
mod ReadingFacts
mod SameFacts
