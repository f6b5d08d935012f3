-- Meaning: words of public contracts.
-- The outcomes of edits of a bibliography file, and the reasons for refusing them.
use Rattle.std.specs.Prelude.{◌≡◌, ◌≢◌, ℕ, Bool, true, false, not, length, map, if◌then◌else◌, List, [], ◌∷◌, ◌++◌, nat_eq}
use Rattle.std.specs.Borrow.{Bor}
use Rattle.std.specs.BTreeSet.{BTreeSet}
use Rattle.std.specs.List.{starts_with}
use Rattle.std.specs.Str.{IsUtf8}
use Rattle.bib_syntax.specs.Reading.{FileReading}
use Rattle.bib_syntax.specs.SyntaxErrors.{IsReported}
use Rattle.bib_syntax.specs.declared.raw.ParseError.{ParseError}
use Rattle.bib_queries.specs.Needed.{is_listed}
use Rattle.bib_queries.specs.Sets.{is_in_set}
use Rattle.bib_source.specs.Encoding.{IsFirstInvalid, byte_order_mark, without_byte_order_mark}
use Rattle.edit_convert.specs.Conversions.{IsConverted}
use Rattle.edit_entries.specs.Documents.{Document, EntriesAdded, EntriesAreRefused, EntryIsRefused, EntryRemoved, IsDocument, IsEdited, UnsetIsRefused}
use Rattle.edit_entries.specs.Changes.{IsChanged}
use Rattle.edit_entries.specs.Edits.{placeless as without_places}
use Rattle.edit_entries.specs.FieldEdits.{FieldEditIsRefused, HasFitValue, edit_name, first_start, selected_edited}
use Rattle.edit_entries.specs.declared.field_edits.FieldEdit.{FieldEdit}
use Rattle.edit_entries.specs.References.{KeyRenamed, KeysAreRefused, KeysRenamed, RenameIsRefused, given_keys}
use Rattle.edit_entries.specs.LineEnds.{with_line_ends_of}
use Rattle.edit_entries.specs.Quotes.{has_unbalanced_quotes}
use Rattle.edit_entries.specs.Selected.{EntriesRemoved, FieldsUnset, FirstsAreRefused, FirstsRemoved, UnsettingIsRefused}
use Rattle.edit_entries.specs.Setting.{CanBeNewName, FieldSet, SetIsRefused, value_of}
use Rattle.edit_entries.specs.Unset.{FieldUnset}
use Rattle.edit_entries.specs.declared.errors.EditError.{EditError}
use Rattle.edit_entries.specs.declared.errors.EditError.TheVariants as edit_error
use Rattle.bib_tables.specs.declared.dialects.Dialect.{Dialect}
use Rattle.bib_tables.specs.declared.dialects.Dialect.TheVariants.{Biblatex, Bibtex}
use Rattle.edit_format.specs.Formatted.{content, says_in_order, text_in_style}
use Rattle.edit_format.specs.declared.style.Style.{Style}
use Rattle.edit_orders.specs.Orders.{order_parts}
use Rattle.edit_orders.specs.Places.{ArePlacesIn}
use Rattle.edit_orders.specs.declared.order.Order.{Order}
use Rattle.edit_resolve.specs.Resolved.{IsResolved, ResolveIsRefused}
use Rattle.edit_resolve.specs.declared.errors.ResolveError.TheVariants as resolve_error
use Rattle.edit_sort.specs.Sorted.{AreEntriesInOrder, IsSortedText, Item, items, says_sorted}
use Rattle.edit_strings.specs.Collected.{AreMadeAbbreviations}
use Rattle.edit_strings.specs.Expanded.{ExpandIsRefused, IsExpanded}
use Rattle.edit_strings.specs.declared.errors.ExpandError.TheVariants as expand_error
use Rattle.bibkit_edits.specs.declared.edit.Edit.{Edit}
use Rattle.bibkit_edits.specs.declared.edit.Edit.TheVariants.{Set, Unset, Rename, RenameAll, Fields, UnsetAll, Remove, RemoveEach, RemoveAll, Add, Sort, Expand, Collect, ToBiblatex, ToBibtex, Resolve, Format}
use Rattle.bibkit_edits.specs.declared.edit.Refusal.{Refusal}
use Rattle.bibkit_edits.specs.declared.edit.Refusal.TheVariants as refusal

-- `d` is the document of `text`
pub record IsDocumentOf (text : List ℕ) (d : Document) : Type 0 where
  pub same : d.text ≡ text
  pub read : IsDocument d

-- `after` is the document `d`, followed by a line end and the document of `text` with line ends by `with_line_ends_of`
pub record TextAdded (d : Document) (text : List ℕ) (after : Document) : Type 0 where
  pub more : Document
  pub read : IsDocumentOf (with_line_ends_of d.text text) more
  pub added : EntriesAdded d more after

-- `after` is the document `d` in a style. Its content is that of `d`, except positions and the ASCII case of types and names of fields.
-- The fields of each entry that isn't copied are in the order of the style
pub record IsInStyle (style : Style) (d after : Document) : Type 0 where
  pub text : after.text ≡ text_in_style style d.text d.says
  pub alike : content after.says ≡ content (says_in_order style d.text d.says)

-- `says` is the content of a document with its entries sorted by `places` (one for each entry), except positions
pub record SaysSorted (d : Document) (places : List ℕ) (says : FileReading) : Type 0 where
  pub order : List Item
  pub in_order : AreEntriesInOrder (items d places) order
  pub alike : without_places says ≡ without_places (says_sorted d order)

-- `after` is the document `d` with its entries sorted by their places in an order, within the rules of `IsSortedText`. Its content
-- is otherwise that of `d`, except positions
pub record IsInOrder (order : Order) (d after : Document) : Type 0 where
  pub places : List ℕ
  pub placed : ArePlacesIn (order_parts order) d.says places
  pub text : IsSortedText d places after.text
  pub alike : SaysSorted d places after.says

-- the text of the second document is that of the first with the abbreviations in fields of entries expanded
abbrev pub IsWrittenOut : Document → Document → Type 0
IsWrittenOut d after = IsExpanded d after.text

-- the text of the second document is that of the first with abbreviations for texts of fields with these names. Such a text occurs
-- at least `at_least` times, and at least twice
abbrev pub AreTextsCollected : List (List ℕ) → ℕ → Document → Document → Type 0
AreTextsCollected fields at_least d after = AreMadeAbbreviations d fields at_least after.text

-- the text of the second document is that of the first with the types and fields of a dialect
abbrev pub IsDocumentConverted : Dialect → Document → Document → Type 0
IsDocumentConverted dialect d after = IsConverted dialect d after.text

-- the text of the second document is that of the first with inherited fields written out
abbrev pub IsResolvedDocument : Document → Document → Type 0
IsResolvedDocument d after = IsResolved d after.text

-- `after` is the document `d` with an edit of a field of each entry with one of these keys. The name that fields get can be that of a new
-- field. The value of the edit can be written in the first of these entries, or at the end of the text if there is none.
pub record AreFieldsEdited (keys : List (List ℕ)) (edit : FieldEdit) (d after : Document) : Type 0 where
  pub set : BTreeSet (Bor (List ℕ))
  pub has : (key : List ℕ) → is_in_set set key ≡ is_listed keys key
  pub name : CanBeNewName (edit_name edit)
  pub value : HasFitValue d.says.abbreviations (first_start (is_in_set set) (length d.text) d.says.entries) edit
  pub changed : IsChanged (selected_edited d.text set edit) d after.text

-- `after` is the document `d` without a field of each entry with one of these keys
pub record AreFieldsUnset (keys : List (List ℕ)) (name : List ℕ) (d after : Document) : Type 0 where
  pub set : BTreeSet (Bor (List ℕ))
  pub has : (key : List ℕ) → is_in_set set key ≡ is_listed keys key
  pub unset : FieldsUnset d (is_in_set set) name after

-- `after` is the document `d` without the entries with these keys
pub record AreEntriesRemoved (keys : List (List ℕ)) (d after : Document) : Type 0 where
  pub set : BTreeSet (Bor (List ℕ))
  pub has : (key : List ℕ) → is_in_set set key ≡ is_listed keys key
  pub removed : EntriesRemoved d (is_in_set set) after

-- the second document is the outcome of an edit of the first
abbrev pub EditOutcome : Edit → Document → Document → Type 0
EditOutcome (Set key name value) d = FieldSet d key.now name.now (value_of value)
EditOutcome (Unset key name) d = FieldUnset d key.now name.now
EditOutcome (Rename old new) d = KeyRenamed d old.now new.now
EditOutcome (RenameAll keys) d = KeysRenamed d (given_keys keys.now)
EditOutcome (Fields keys edit) d = AreFieldsEdited (map (λ k. k.now) keys.now) edit d
EditOutcome (UnsetAll keys name) d = AreFieldsUnset (map (λ k. k.now) keys.now) name.now d
EditOutcome (Remove key) d = EntryRemoved d key.now
EditOutcome (RemoveEach keys) d = FirstsRemoved d (map (λ k. k.now) keys.now)
EditOutcome (RemoveAll keys) d = AreEntriesRemoved (map (λ k. k.now) keys.now) d
EditOutcome (Add text) d = TextAdded d text.now
EditOutcome (Sort order) d = IsInOrder order d
EditOutcome Expand d = IsWrittenOut d
EditOutcome (Collect fields at_least) d = AreTextsCollected (map (λ name. name.now) fields.now) at_least d
EditOutcome ToBiblatex d = IsDocumentConverted Biblatex d
EditOutcome ToBibtex d = IsDocumentConverted Bibtex d
EditOutcome Resolve d = IsResolvedDocument d
EditOutcome (Format style) d = IsInStyle style d

-- whether an edit of a document can't break a text in quotes. No such text has unbalanced braces, or the edit is a format, which copies an
-- entry with such a text
abbrev pub is_safe : Edit → Document → Bool
is_safe (Format style) d = true
is_safe _ d = not (has_unbalanced_quotes d)

-- `new` is the text after an edit of the document of `text`
pub record IsMade (edit : Edit) (text new : List ℕ) : Type 0 where
  pub document : Document
  pub read : IsDocumentOf text document
  pub safe : is_safe edit document ≡ true
  pub edited : IsEdited (EditOutcome edit document) new

-- the second text is the first one after these edits, each applied to the text after the previous edit
pub data AreMade : List Edit → List ℕ → List ℕ → Type 0 where
  none : {text : List ℕ} → AreMade [] text text
  next : {edit : Edit} {rest : List Edit} {text new : List ℕ} (between : List ℕ) → IsMade edit text between
      → AreMade rest between new → AreMade (edit ∷ rest) text new

-- adding the document of `text`, with line ends by `with_line_ends_of`, to the document `d` may be refused with the error `why`
pub record TextIsRefused (d : Document) (text : List ℕ) (why : EditError) : Type 0 where
  pub more : Document
  pub read : IsDocumentOf (with_line_ends_of d.text text) more
  pub refused : EntriesAreRefused d more why

-- an edit of a document may be refused with this error; the edits that aren't listed can't be refused so
abbrev pub IsEditRefused : Edit → Document → EditError → Type 0
IsEditRefused (Set key name value) d why = SetIsRefused d key.now name.now (value_of value) why
IsEditRefused (Unset key name) d why = UnsetIsRefused d key.now name.now why
IsEditRefused (Rename old new) d why = RenameIsRefused d old.now new.now why
IsEditRefused (RenameAll keys) d why = KeysAreRefused d (given_keys keys.now) why
IsEditRefused (Fields keys edit) d why = FieldEditIsRefused d (is_listed (map (λ k. k.now) keys.now)) edit why
IsEditRefused (UnsetAll keys name) d why = UnsettingIsRefused d (is_listed (map (λ k. k.now) keys.now)) name.now why
IsEditRefused (Remove key) d why = EntryIsRefused d key.now why
IsEditRefused (RemoveEach keys) d why = FirstsAreRefused d (map (λ k. k.now) keys.now) why
IsEditRefused (Add text) d why = TextIsRefused d text.now why
IsEditRefused _ d why = ⊥

-- the edit expands the abbreviations of the document. The definition at this index is the first that uses its own name, or a name before
-- the name's first definition
abbrev pub MeetsEarlyUse : Edit → Document → ℕ → Type 0
MeetsEarlyUse Expand d definition = ExpandIsRefused d (expand_error.EarlyUse definition)
MeetsEarlyUse _ d definition = ⊥

-- the edit resolves the references of the document, and the entry at this index is the first that inherits from itself
abbrev pub MeetsReferenceCycle : Edit → Document → ℕ → Type 0
MeetsReferenceCycle Resolve d entry = ResolveIsRefused d (resolve_error.Cycle entry)
MeetsReferenceCycle _ d entry = ⊥

-- the edit of the text `file` adds the text `added`, whose line ends are those by `with_line_ends_of`
abbrev pub AddsText : Edit → List ℕ → List ℕ → Type 0
AddsText (Add text) file added = added ≡ with_line_ends_of file text.now
AddsText _ file added = ⊥

-- Edits of a text may be refused for this reason. Either the text has an error that makes parsing fail, or out of memory. Or the first
-- edits are made, and the next one is refused. It adds a text with such an error, has an error, or can break a text in quotes. Or it
-- meets an early use or a cycle of references. The index in a refusal is the number of edits before it.
pub data AreRefused (edits : List Edit) (text : List ℕ) : Refusal → Type 0 where
  file : {e : ParseError} → IsReported text e → AreRefused edits text (refusal.File e)
  added : {e : ParseError} (edit : Edit) (done rest : List Edit) (between more : List ℕ) → edits ≡ done ++ edit ∷ rest
      → AreMade done text between → AddsText edit between more → IsReported more e
      → AreRefused edits text (refusal.Added e)
  refused : {why : EditError} (edit : Edit) (done rest : List Edit) (between : List ℕ) (d : Document)
      → edits ≡ done ++ edit ∷ rest → AreMade done text between → IsDocumentOf between d
      → IsEditRefused edit d why → why ≢ edit_error.OutOfMemory → AreRefused edits text (refusal.Edit (length done) why)
  early_use : {definition : ℕ} (edit : Edit) (done rest : List Edit) (between : List ℕ) (d : Document)
      → edits ≡ done ++ edit ∷ rest → AreMade done text between → IsDocumentOf between d
      → MeetsEarlyUse edit d definition → AreRefused edits text (refusal.EarlyUse (length done) definition)
  reference_cycle : {entry : ℕ} (edit : Edit) (done rest : List Edit) (between : List ℕ) (d : Document)
      → edits ≡ done ++ edit ∷ rest → AreMade done text between → IsDocumentOf between d
      → MeetsReferenceCycle edit d entry → AreRefused edits text (refusal.ReferenceCycle (length done) entry)
  unbalanced_quotes : (edit : Edit) (done rest : List Edit) (between : List ℕ) (d : Document)
      → edits ≡ done ++ edit ∷ rest → AreMade done text between → IsDocumentOf between d
      → is_safe edit d ≡ false → AreRefused edits text (refusal.UnbalancedQuotes (length done))
  no_memory : AreRefused edits text refusal.OutOfMemory

-- the byte order mark of UTF-8 at the start of bytes, or no bytes without it
abbrev pub mark_of : List ℕ → List ℕ
mark_of bytes = if starts_with nat_eq bytes byte_order_mark then byte_order_mark else []

-- `new` is the result of edits of a file's bytes. The bytes are UTF-8, the text after a byte order mark is edited, and the mark
-- is kept
pub record IsFileMade (edits : List Edit) (bytes new : List ℕ) : Type 0 where
  pub text : List ℕ
  pub utf8 : IsUtf8 (without_byte_order_mark bytes)
  pub made : AreMade edits (without_byte_order_mark bytes) text
  pub is : new ≡ mark_of bytes ++ text

-- edits of a file may be refused for this reason: its bytes aren't UTF-8, the edits of its text are refused, or out of memory
pub data IsFileRefused (edits : List Edit) (bytes : List ℕ) : Refusal → Type 0 where
  not_utf8 : {at : ℕ} → IsFirstInvalid bytes at → IsFileRefused edits bytes (refusal.NotUtf8 at)
  text : {why : Refusal} → IsUtf8 (without_byte_order_mark bytes) → AreRefused edits (without_byte_order_mark bytes) why
      → IsFileRefused edits bytes why
  no_memory : IsFileRefused edits bytes refusal.OutOfMemory
