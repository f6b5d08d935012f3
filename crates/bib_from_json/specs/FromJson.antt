-- Meaning: words of public contracts.
-- The entries of a text of JSON, and the errors.
use Rattle.std.specs.Prelude.{◌≡◌, ◌≤◌, ◌⊎◌, ℕ, List, [], length, Ok, Err}
use Rattle.biblatex.specs.Headline.{IsAcceptedText, IsBibliographyOf}
use Rattle.biblatex.specs.Syntax.{Bibliography}
use Rattle.bib_from_csl.specs.declared.converting.Converted.{Converted}
use Rattle.bib_from_json.specs.GivenEntries.{entries_read}
use Rattle.bib_from_json.specs.SameEntries.{AreSameEntries}
use Rattle.bib_from_json.specs.WrittenSources.{entries_source}
use Rattle.bib_from_json.specs.declared.converting.EntriesError.{EntriesError}
use Rattle.bib_from_json.specs.declared.converting.EntriesError.TheVariants.{Refused, NotRead, OutOfMemory}
use Rattle.bib_from_json.specs.declared.converting.Refusal.{Refusal}
use Rattle.bib_from_json.specs.declared.given.GivenEntry.{GivenEntry}

-- the conversion of a text of JSON: the source of its entries, which is parsed as the same entries again. Nothing is lost
pub record AreEntriesOfJson (json : List ℕ) (converted : Converted) : Type 0 where
  pub given : List GivenEntry
  pub of_json : entries_read json ≡ Ok given
  pub text : converted.text ≡ entries_source given
  pub bibliography : Bibliography
  pub read_again : IsBibliographyOf converted.text bibliography
  pub same : AreSameEntries given bibliography.entries
  pub losses : converted.losses ≡ []

-- a text is parsed as other entries than these
pub record IsOfOthers (given : List GivenEntry) (text : List ℕ) : Type 0 where
  pub bibliography : Bibliography
  pub read : IsBibliographyOf text bibliography
  pub others : AreSameEntries given bibliography.entries → ⊥

-- the text contains entries, but their source can't be parsed, or is parsed as other entries
pub record AreNotWritable (json : List ℕ) : Type 0 where
  pub given : List GivenEntry
  pub of_json : entries_read json ≡ Ok given
  pub unread : (IsAcceptedText (entries_source given) → ⊥) ⊎ IsOfOthers given (entries_source given)

-- a refusal gives the fault of an element or of the text, or says that the entries can't be written. In the latter case, nothing is stated
-- about its fault, its element, its key and its field
pub data IsEntriesRefusal (json : List ℕ) (r : Refusal) : Type 0 where
  no_entries : entries_read json ≡ Err (r.element, r.unfit) → r.at ≤ length json → IsEntriesRefusal json r
  not_writable : r.at ≤ length json → AreNotWritable json → IsEntriesRefusal json r

-- the offset of a refusal is in the text; nothing else is stated
abbrev pub IsOfUnreadEntries : List ℕ → EntriesError → Type 0
IsOfUnreadEntries json (Refused r) = r.at ≤ length json
IsOfUnreadEntries json (NotRead e) = Unit {0}
IsOfUnreadEntries json OutOfMemory = Unit {0}

-- the reasons why a text can't be converted to entries
abbrev pub MayRefuseEntries : List ℕ → EntriesError → Type 0
MayRefuseEntries json (Refused r) = IsEntriesRefusal json r
MayRefuseEntries json (NotRead e) = AreNotWritable json
MayRefuseEntries json OutOfMemory = Unit {0}
