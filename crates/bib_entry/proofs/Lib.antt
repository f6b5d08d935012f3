pub mod DateFacts
pub mod DialectFacts
pub mod EntryFacts
pub mod FieldFacts
pub mod ReportFacts
