pub mod Settings
pub mod StyleSettings
