-- Machinery: words of private contracts.
-- Resolving one entry, cached dates, and the first unreadable date.
use Rattle.std.specs.Prelude.{◌≡◌, ℕ, ◌<◌, ◌⊎◌, Bool, true, false, ◌&&◌, List, slice_get, slice_index_or, find, length, Option, IsNone, IsSome, Some, None}
use Rattle.std.specs.List.{Contains, list_any}
use Rattle.std.specs.FinMap as by_name
use Rattle.bib_chunks.specs.declared.chunk.Chunk.{Chunk}
use Rattle.bib_entry.specs.declared.entry.Entry.{Entry}
use Rattle.bib_tables.specs.declared.type_error.TypeError.{TypeError}
use Rattle.bib_collections.specs.Graph.{Graph, refs_of}
use Rattle.bib_inheritance.specs.InheritableDate.{DateMayFail, IsInheritableDate, IsPlaceOfDate, LiesAtDate}
use Rattle.bib_inheritance.specs.Inherited.{with_inherited_fields}
use Rattle.bib_inheritance.specs.EntryTexts.{EntryTexts}
use Rattle.bib_inheritance.specs.declared.inheritable_date.InheritableDate.{InheritableDate as Kept}
use Rattle.bib_inheritance.specs.declared.inheritable_date.InheritableDate.TheVariants.{Undated, Unreadable, Dated}
use Rattle.bib_text.specs.declared.spanned.Spanned.{Spanned}
use Rattle.bib_inheritance.specs.Resolving.{KeepsChunks, at_index, is_bad_date, texts_of_entries, texts_of_entry}

-- `new` is `old` after inheriting from its references
pub record IsTurned (old : Entry) (references : List EntryTexts) (new : Entry) : Type 0 where
  pub key : new.key ≡ old.key
  pub inherits : texts_of_entry new ≡ with_inherited_fields (texts_of_entry old) references
  pub chunks : KeepsChunks old new

-- cached dates of entries; `None` for a date that was not computed
abbrev pub Dates : Type 0
Dates = List (Option Kept)

-- the cached date of the entry at an index
abbrev pub date_at : Dates → ℕ → Option Kept
date_at dates index = slice_index_or dates index None

-- the date if it was computed and can be inherited
abbrev pub inheritable_chunks : Option Kept → Option (List (Spanned Chunk))
inheritable_chunks (Some (Dated chunks)) = Some chunks
inheritable_chunks (Some Undated) = None
inheritable_chunks (Some (Unreadable error)) = None
inheritable_chunks None = None

-- the error of a date that was computed and is unreadable
abbrev pub error_in : Option Kept → Option TypeError
error_in (Some (Unreadable error)) = Some error
error_in (Some Undated) = None
error_in (Some (Dated chunks)) = None
error_in None = None

-- `date` is the date of the entry at an index; the span of its error is determined by the fields of the entry
pub record IsDateAt (entries : List Entry) (index : ℕ) (date : Kept) : Type 0 where
  pub is : IsInheritableDate (at_index (texts_of_entries entries) index).fields date
  pub entry : Entry
  pub there : slice_get entries index ≡ Some entry
  pub lies : LiesAtDate (by_name.get entry.fields) date

-- each cached date is that of the entry at its index
abbrev pub AreDates : List Entry → Dates → Type 0
AreDates entries dates = (index : ℕ) (date : Kept) → date_at dates index ≡ Some date → IsDateAt entries index date

-- a cache of the dates of entries: a place for each entry, and each cached date is that of the entry at its index
pub record IsCacheOf (entries : List Entry) (dates : Dates) : Type 0 where
  pub as_many : length dates ≡ length entries
  pub right : AreDates entries dates

-- a cache with `count` places, none of whose dates is computed yet
pub record IsEmptyCache (count : ℕ) (dates : Dates) : Type 0 where
  pub as_many : length dates ≡ count
  pub none : (index : ℕ) → IsNone (date_at dates index)

-- the cache has no new dates, except at these indices
abbrev pub AddsAmong : List ℕ → Dates → Dates → Type 0
AddsAmong indices old new = (index : ℕ) → IsSome (date_at new index) → IsSome (date_at old index) ⊎ Contains indices index

-- the error of the first of these entries that has an unreadable date
pub record IsUnreadDate (entries : List Entry) (indices : List ℕ) (error : TypeError) : Type 0 where
  pub reference : ℕ
  pub first : find (is_bad_date (texts_of_entries entries)) indices ≡ Some reference
  pub may : DateMayFail (at_index (texts_of_entries entries) reference).fields error.kind
  pub entry : Entry
  pub there : slice_get entries reference ≡ Some entry
  pub lies : IsPlaceOfDate (by_name.get entry.fields) error.span

-- whether an entry is flagged and refers to an entry with an unreadable date
abbrev pub is_unread_at : List Bool → Graph → List EntryTexts → ℕ → Bool
is_unread_at looks graph values index = slice_index_or looks index false && list_any (is_bad_date values) (refs_of graph index)

-- the error of the first entry that is flagged and refers to an entry with an unreadable date
pub record IsFirstUnread (looks : List Bool) (graph : Graph) (entries : List Entry) (error : TypeError) : Type 0 where
  pub index : ℕ
  pub flagged : slice_index_or looks index false ≡ true
  pub earlier : (other : ℕ) → other < index → is_unread_at looks graph (texts_of_entries entries) other ≡ false
  pub unread : IsUnreadDate entries (refs_of graph index) error
