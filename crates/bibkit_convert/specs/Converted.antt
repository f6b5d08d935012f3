-- Meaning: words of public contracts.
-- The output of bibliographies in other formats: JSON arrays of entries, or records one after another.
use Rattle.std.specs.Prelude.{◌≡◌, ◌<◌, ◌-◌, ◌^◌, ℕ, Bool, ◌&&◌, true, false, not, if◌then◌else◌, List, [], ◌∷◌, ◌++◌, Option}
use Rattle.std.specs.Io.KnownBytes.{Appends}
use Rattle.biblatex.specs.Headline.{IsAcceptedText, IsBibliographyOf, IsErrorOf}
use Rattle.biblatex.specs.Syntax.{Bibliography, Entry}
use Rattle.bib_tables.specs.declared.mechanics.EntryType.{EntryType}
use Rattle.bib_tables.specs.declared.mechanics.EntryType.TheVariants.{XData}
use Rattle.serde_json.specs.Written.{compact_text}
use Rattle.bib_csl.specs.Json.{json_of as item_json}
use Rattle.bib_csl.specs.SentenceItems.{item_of_entry_in}
use Rattle.bib_json.specs.Arrays.{array_end, before_element}
use Rattle.bib_json.specs.Entries.{json_text_of}
use Rattle.bib_ris.specs.Records.{ris_of}
use Rattle.bibkit_convert.specs.declared.target.Target.{Target}
use Rattle.bibkit_convert.specs.declared.target.Target.TheVariants.{Csl, Json, Ris}
use Rattle.bibkit_convert.specs.declared.converting.ConvertError.{ConvertError}
use Rattle.bibkit_convert.specs.declared.converting.ConvertError.TheVariants.{File, NotTaken, OutOfMemory}

-- whether an entry type is `xdata`
abbrev pub is_xdata : EntryType → Bool
is_xdata XData = true
is_xdata _ = false

-- whether a format has an entry: JSON has each entry, CSL-JSON and RIS have no entry of the type `xdata`
abbrev pub is_written : Target → Entry → Bool
is_written Json e = true
is_written (Csl titles) e = not (is_xdata e.entry_type)
is_written Ris e = not (is_xdata e.entry_type)

-- the text of an entry in a format
abbrev pub exported_entry : Target → Entry → List ℕ
exported_entry (Csl titles) e = compact_text (item_json (item_of_entry_in titles e))
exported_entry Json e = json_text_of e
exported_entry Ris e = ris_of e

-- the separator before an entry, by whether it is the first
abbrev pub before_next : Target → Bool → List ℕ
before_next (Csl titles) is_first = before_element is_first
before_next Json is_first = before_element is_first
before_next Ris is_first = []

-- the text after the last entry; `is_empty` says whether no entry is printed
abbrev pub end : Target → Bool → List ℕ
end (Csl titles) is_empty = array_end is_empty
end Json is_empty = array_end is_empty
end Ris is_empty = []

-- the text of an entry after its separator, or an empty text if the format doesn't have it
abbrev pub text_after : Target → Bool → Entry → List ℕ
text_after target is_first e = if is_written target e then before_next target is_first ++ exported_entry target e else []

-- whether the output still has no entry after this one; `is_first` says whether it has none before
abbrev pub is_still_first : Target → Bool → Entry → Bool
is_still_first target is_first e = is_first && not (is_written target e)

-- the texts of entries one after another; `is_first` says whether no entry is printed before them
abbrev pub texts_after : Target → Bool → List Entry → List ℕ
texts_after target is_first [] = []
texts_after target is_first (e ∷ es) = text_after target is_first e ++ texts_after target (is_still_first target is_first e) es

-- whether the output still has no entry after these; `is_first` says whether it has none before
abbrev pub is_first_after : Target → Bool → List Entry → Bool
is_first_after target is_first [] = is_first
is_first_after target is_first (e ∷ es) = is_first_after target (is_still_first target is_first e) es

-- the output takes the entries of the bibliography of `text`; `is_first` and `is_first'` say whether no entry is printed before
-- them and after them
pub record IsExported {K : Type 0} (taken : K → Option (List ℕ)) (target : Target) (is_first : Bool) (text : List ℕ)
    (old new : K) (is_first' : Bool) : Type 0 where
  pub bibliography : Bibliography
  pub of_text : IsBibliographyOf text bibliography
  pub printed : Appends (taken old) (taken new) (texts_after target is_first bibliography.entries)
  pub next : is_first' ≡ is_first_after target is_first bibliography.entries

-- printing an entry may fail with this error: the output refuses its text, or out of memory
abbrev pub EntryFails : {K : Type 0} → (K → ℕ) → K → K → ConvertError → Type 0
EntryFails refusals old new (File e) = ⊥
EntryFails refusals old new NotTaken = refusals old < 2 ^ 64 - 1 → refusals old < refusals new
EntryFails refusals old new OutOfMemory = refusals new ≡ refusals old

-- converting a text may fail with this error: the text isn't accepted, and nothing is printed; or the output refuses an entry;
-- or out of memory
abbrev pub ConvertFails : {K : Type 0} → (K → ℕ) → List ℕ → K → K → ConvertError → Type 0
ConvertFails refusals text old new (File e) = IsErrorOf text e × (IsAcceptedText text → ⊥) × (new ≡ old)
ConvertFails refusals text old new NotTaken = refusals old < 2 ^ 64 - 1 → refusals old < refusals new
ConvertFails refusals text old new OutOfMemory = refusals new ≡ refusals old
