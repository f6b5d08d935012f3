pub mod LanguageFacts
pub mod EntryTypeFacts
