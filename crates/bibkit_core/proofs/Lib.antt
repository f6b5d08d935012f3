pub mod AnswerFacts
pub mod ComparedFacts
pub mod ConditionFacts
pub mod CountFacts
pub mod DatabaseFacts
pub mod FindingFacts
pub mod RunFacts
pub mod TableFacts
mod TallyFacts
mod BaselineFacts
mod Beside
mod Outcomes
mod RegionFacts
mod Results
mod SarifFacts
mod SkippedFacts
mod Touching
mod UriFacts
