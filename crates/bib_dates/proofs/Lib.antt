pub mod AnswerFacts
pub mod Cuts
pub mod DatesReread
pub mod Digits
pub mod KindFacts
pub mod OrderFacts
pub mod Padding
pub mod PartsReread
pub mod PlainTexts
mod Rows
