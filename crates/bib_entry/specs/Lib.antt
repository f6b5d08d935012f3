pub mod Fields
pub mod Editors
pub mod Verdicts
pub mod Reports
pub mod Parents
pub mod WrittenEntries
pub mod DateFields
pub mod Prefixes
