-- Meaning: words of public contracts.
-- The entries of a bibliography with the fields that they inherit, and the errors of inheriting.
use Rattle.std.specs.Prelude.{◌≡◌, ℕ, ◌<◌, ◌⊎◌, Bool, true, false, ◌&&◌, List, map, slice_get, slice_index_or, find, Some, None}
use Rattle.std.specs.List.{list_any}
use Rattle.std.specs.FinMap as by_name
use Rattle.std.specs.declared.ops.Range.{Range}
use Rattle.bib_chunks.specs.declared.chunk.Chunk.{Chunk}
use Rattle.bib_dates.specs.Readings.{IsDateKind}
use Rattle.bib_entry.specs.declared.entry.Entry.{Entry}
use Rattle.bib_tables.specs.declared.type_error.TypeErrorKind.{TypeErrorKind}
use Rattle.bib_collections.specs.Graph.{Graph, HasNoCycle, IsFirstOnCycle, refs_of, Solves}
use Rattle.bib_inheritance.specs.InheritableDate.{DateMayFail, IsPlaceOfDate, inheritable_date, is_unreadable, looks_for_date}
use Rattle.bib_inheritance.specs.Inherited.{with_inherited_fields}
use Rattle.bib_inheritance.specs.References.{references}
use Rattle.bib_inheritance.specs.EntryTexts.{EntryTexts, fields_of, no_entry, texts_of_fields}
use Rattle.bib_collections.specs.Sorted.{ByText}
use Rattle.bib_syntax.specs.declared.raw.ParseError.{ParseError}
use Rattle.bib_syntax.specs.declared.raw.ParseErrorKind.TheVariants.{ReferenceCycle, ResolutionError}
use Rattle.bib_text.specs.declared.spanned.Spanned.{Spanned}

-- for each entry, the indices of the entries that it refers to, by `names` and its own fields
abbrev pub graph_by : ByText ℕ → List Entry → Graph
graph_by names own = map (λ e. references names (fields_of e.fields)) own

-- the texts of an entry: its type, and the styled texts of its fields
abbrev pub texts_of_entry : Entry → EntryTexts
texts_of_entry e = texts_of_fields e.entry_type e.fields

-- the texts of entries, in order
abbrev pub texts_of_entries : List Entry → List EntryTexts
texts_of_entries = map texts_of_entry

-- the texts at an index, and `no_entry` if the index is out of range
abbrev pub at_index : List EntryTexts → ℕ → EntryTexts
at_index values index = slice_index_or values index no_entry

-- the entry at an index after inheriting, from the own entries and its references
abbrev pub rule_by : List EntryTexts → ℕ → List EntryTexts → EntryTexts
rule_by own index references = with_inherited_fields (at_index own index) references

-- the inheritance equation: each entry is its own entry after inheriting from the solutions for its references
abbrev pub Inherits : List EntryTexts → Graph → List EntryTexts → Type 0
Inherits own graph values = Solves no_entry (rule_by own) graph values

-- whether the entry at an index has an unreadable date: it has `year` but no `date`, and its year, month and day can't be
-- parsed
abbrev pub is_bad_date : List EntryTexts → ℕ → Bool
is_bad_date values index = is_unreadable (inheritable_date (at_index values index).fields)

-- whether the own entry at an index lacks a required date, and refers to an entry with an unreadable date
abbrev pub has_bad_date : List EntryTexts → Graph → List EntryTexts → ℕ → Bool
has_bad_date own graph values index = looks_for_date (at_index own index) && list_any (is_bad_date values) (refs_of graph index)

-- no entry that lacks a required date refers to an entry with an unreadable date
abbrev pub AreDatesRead : List EntryTexts → Graph → List EntryTexts → Type 0
AreDatesRead own graph values = (index : ℕ) → has_bad_date own graph values index ≡ false

-- each field of `own` has the same chunks in `entry`, or is missing there
abbrev pub KeepsChunks : Entry → Entry → Type 0
KeepsChunks own entry = (name : List ℕ) (chunks : List (Spanned Chunk)) → by_name.get own.fields name ≡ Some chunks
    → (by_name.get entry.fields name ≡ Some chunks) ⊎ (by_name.get entry.fields name ≡ None)

-- `place` is the span of the date error of the entry at an index. It is determined by the year, the month and the day of
-- some entry with the inherited value and the chunks of the own entry. The chunks of an own year, month or day thus have
-- their spans in the file. Inherited ones, which only an `xdata` entry has, may have any span
pub record IsPlaceAt (own : List Entry) (values : List EntryTexts) (index : ℕ) (place : Range ℕ) : Type 0 where
  pub written : Entry
  pub there : slice_get own index ≡ Some written
  pub entry : Entry
  pub becomes : texts_of_entry entry ≡ at_index values index
  pub keeps : KeepsChunks written entry
  pub lies : IsPlaceOfDate (by_name.get entry.fields) place

-- the error of the entry at an index, whose references include one with an unreadable date: that of the first such
-- reference. Its span is that of this date, and its kind is one that dates have and that parsing the year, month and day may
-- report
pub record IsDateError (own : List Entry) (graph : Graph) (values : List EntryTexts) (index : ℕ) (e : ParseError) : Type 0 where
  pub reference : ℕ
  pub first : find (is_bad_date values) (refs_of graph index) ≡ Some reference
  pub kind : TypeErrorKind
  pub is : e.kind ≡ ResolutionError kind
  pub may : DateMayFail (at_index values reference).fields kind
  pub of_dates : IsDateKind kind
  pub place : IsPlaceAt own values reference e.span

-- each entry keeps the chunks of the own entry at the same index, as `KeepsChunks` states
abbrev pub AllKeepChunks : List Entry → List Entry → Type 0
AllKeepChunks own entries =
    (index : ℕ) (written entry : Entry) → slice_get own index ≡ Some written → slice_get entries index ≡ Some entry
    → KeepsChunks written entry

-- the entries after inheriting along `graph`: keys are unchanged, own fields that remain keep their chunks, and the fields
-- solve the inheritance equation
pub record HaveInherited (own : List Entry) (graph : Graph) (entries : List Entry) : Type 0 where
  pub keys : map (λ e. e.key) entries ≡ map (λ e. e.key) own
  pub inherits : Inherits (texts_of_entries own) graph (texts_of_entries entries)
  pub chunks : AllKeepChunks own entries

-- the entries after inheriting, without errors
pub record AreResolved (own : List Entry) (graph : Graph) (entries : List Entry) : Type 0 where
  pub no_cycle : HasNoCycle graph
  pub inherited : HaveInherited own graph entries
  pub dates : AreDatesRead (texts_of_entries own) graph (texts_of_entries entries)

-- the error of an entry at an index that is on a cycle: at the span of the entry, with its key
pub record IsCycleAt (spans : List (Range ℕ)) (own : List Entry) (index : ℕ) (e : ParseError) : Type 0 where
  pub entry : Entry
  pub span : Range ℕ
  pub here : slice_get own index ≡ Some entry
  pub stands : slice_get spans index ≡ Some span
  pub is : e ≡ record { span = span; kind = ReferenceCycle entry.key }

-- the error of inheriting: that of the first entry on a cycle. If there is none, it is that of the first entry that lacks a
-- required date and refers to an entry with an unreadable date
pub data IsResolvingError (spans : List (Range ℕ)) (own : List Entry) (graph : Graph) (e : ParseError) : Type 0 where
  cycle : {index : ℕ} → IsFirstOnCycle graph index → IsCycleAt spans own index e → IsResolvingError spans own graph e
  date : {values : List EntryTexts} {index : ℕ} → HasNoCycle graph → Inherits (texts_of_entries own) graph values
      → looks_for_date (at_index (texts_of_entries own) index) ≡ true
      → ((earlier : ℕ) → earlier < index → has_bad_date (texts_of_entries own) graph values earlier ≡ false)
      → IsDateError own graph values index e → IsResolvingError spans own graph e
