pub mod AddedFacts
pub mod AgreementFacts
pub mod AllFacts
pub mod BeforeFacts
pub mod ByEntriesFacts
pub mod ChangeListFacts
pub mod ChangedFacts
pub mod ChangesFacts
mod CommentFacts
pub mod CutFacts
pub mod DefinitionFacts
pub mod EditFacts
pub mod ElementFacts
pub mod ElementStandsFacts
pub mod EntriesRemovedFacts
pub mod EntryChangeFacts
pub mod EntryCopyFacts
pub mod EntryFacts
pub mod ExchangedFacts
pub mod FieldEditFacts
pub mod FieldMadeFacts
pub mod FieldNameFacts
mod FieldsFromFacts
pub mod FirstFacts
pub mod FitFacts
mod GapEndFacts
mod IndexFacts
pub mod GrammarFacts
pub mod InTurnFacts
pub mod JoinedFacts
pub mod KeptFacts
mod KeyFacts
pub mod KindFacts
pub mod LayoutFacts
mod LineEndFacts
mod LineFacts
mod LineThereFacts
pub mod MadeFacts
pub mod MovedFacts
mod NameSetFacts
pub mod NameStandsFacts
pub mod NewFieldFacts
pub mod NewValueFacts
mod OwnEditFacts
mod OwnListFacts
pub mod PartFacts
pub mod PlacelessFacts
pub mod PositionFacts
mod PrefixFacts
pub mod PutFacts
pub mod ReferenceFacts
pub mod RemovalFacts
pub mod RemovalListFacts
pub mod RemovedFacts
pub mod RenamedFacts
pub mod RenamingFacts
pub mod SelectedFacts
pub mod SetFacts
pub mod SetLawFacts
pub mod SplitFacts
pub mod StandsFacts
pub mod StretchFacts
mod TakenFacts
mod NameFacts
pub mod TrimFacts
pub mod TrimmedFacts
pub mod UnsetEntryFacts
pub mod UnsetFacts
pub mod ValueFacts
pub mod ValuePutFacts
pub mod WhiteBeforeFacts
pub mod WhiteFacts
pub mod ZoneFacts
