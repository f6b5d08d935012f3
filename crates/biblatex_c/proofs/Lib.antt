pub mod EndFacts
pub mod FailureFacts
pub mod FaultFacts
pub mod ExportFacts
pub mod TextFacts
