-- Meaning: words of public contracts.
-- The entries of a text of RIS, the lines that they lack or change, and the errors.
use Rattle.std.specs.Prelude.{◌≡◌, ◌≢◌, ℕ, List, [], ◌++◌}
use Rattle.std.specs.List.{flat_map}
use Rattle.bib_entry.specs.declared.entry.Entry.{Entry}
use Rattle.biblatex.specs.Headline.{IsAcceptedText, IsBibliographyOf}
use Rattle.biblatex.specs.Syntax.{Bibliography}
use Rattle.bib_from_csl.specs.declared.converting.Converted.{Converted}
use Rattle.bib_from_csl.specs.declared.given.GivenItem.{GivenItem}
use Rattle.bib_from_csl.specs.declared.losses.Loss.{Loss}
use Rattle.bib_from_csl.specs.FromItems.{items_source}
use Rattle.bib_from_csl.specs.Losses.{all_losses}
use Rattle.bib_from_ris.specs.declared.converting.RisError.{RisError}
use Rattle.bib_from_ris.specs.declared.converting.RisError.TheVariants.{NoRecord, KeyTwice, NotRead, OutOfMemory}
use Rattle.bib_from_ris.specs.RisItems.{ris_items, ris_sections, section_losses}
use Rattle.bib_from_ris.specs.declared.sections.Section.{Section}

-- the losses of these sections, whose items have these entries: the lines that are in no record, and the members that the entries lack or
-- change
abbrev pub losses_with : List Section → List GivenItem → List Entry → List Loss
losses_with sections items entries = flat_map section_losses sections ++ all_losses items entries

-- the conversion of a text of RIS that has a record: the source of the entries of its items, the lines that are in no record, and the
-- members that the entries lack or change after the source is parsed
pub record AreEntriesOfRis (ris : List ℕ) (converted : Converted) : Type 0 where
  pub has_record : ris_items ris ≢ []
  pub text : converted.text ≡ items_source (ris_items ris)
  pub bibliography : Bibliography
  pub read_again : IsBibliographyOf converted.text bibliography
  pub losses : converted.losses ≡ losses_with (ris_sections ris) (ris_items ris) bibliography.entries

-- the source of the entries of a text of RIS can't be parsed
abbrev pub AreUnreadRecords : List ℕ → Type 0
AreUnreadRecords ris = IsAcceptedText (items_source (ris_items ris)) → ⊥

-- an error says that the entries of two records have one key, that their source can't be parsed, or that memory runs out
abbrev pub IsOfUnreadRecords : RisError → Type 0
IsOfUnreadRecords NoRecord = ⊥
IsOfUnreadRecords (KeyTwice index) = Unit {0}
IsOfUnreadRecords (NotRead e) = Unit {0}
IsOfUnreadRecords OutOfMemory = Unit {0}

-- the reasons why a text can't be converted to entries
abbrev pub MayRefuseRis : List ℕ → RisError → Type 0
MayRefuseRis ris NoRecord = ris_items ris ≡ []
MayRefuseRis ris (KeyTwice index) = AreUnreadRecords ris
MayRefuseRis ris (NotRead e) = AreUnreadRecords ris
MayRefuseRis ris OutOfMemory = Unit {0}
