pub mod ComparingFacts
pub mod FieldFacts
pub mod LetterFacts
pub mod OrderFacts
pub mod PlaceFacts
pub mod TotalFacts
pub mod YearFacts
