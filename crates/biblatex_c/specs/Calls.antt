-- Meaning: words of public contracts.
-- The results of the calls for C, and the statuses with which they fail.
use Rattle.std.specs.Prelude.{◌≡◌, ◌≤◌, ◌<◌, ◌⊎◌, ℕ, ⊤, Bool, false, true, List, [], ◌∷◌, ◌++◌, length, drop, codes, None}
use Rattle.std.specs.List.{AllByRecursion}
use Rattle.std.specs.Str.{IsUtf8}
use Rattle.biblatex.specs.Headline.{IsAcceptedText, IsBibliographyOf}
use Rattle.biblatex.specs.Syntax.{Bibliography, Entry, FileReading, IsFile, IsRawReading, entries_text}
use Rattle.bib_queries.specs.Answers.{lines_of_keys}
use Rattle.bibkit_convert.specs.Converted.{end, is_first_after, texts_after}
use Rattle.edit_entries.specs.Documents.{Document, EntriesAdded, EntriesAreRefused, IsDocument, IsEdited}
use Rattle.edit_entries.specs.LineEnds.{with_line_ends_of}
use Rattle.edit_entries.specs.Quotes.{has_unbalanced_quotes}
use Rattle.edit_entries.specs.Setting.{SetValue}
use Rattle.edit_entries.specs.declared.errors.EditError.{EditError}
use Rattle.edit_entries.specs.declared.errors.EditError.TheVariants as edit_error
use Rattle.edit_format.specs.Formatted.{text_in_style}
use Rattle.edit_format.specs.Usual.{IsUsual}
use Rattle.edit_format.specs.declared.style.Style.{Style}
use Rattle.bibkit_convert.specs.declared.target.Target.{Target}
use Rattle.bibkit_core.specs.Tasks.{PrintsFindings}
use Rattle.bibkit_core.specs.declared.request.Lint.{Lint}
use Rattle.bibkit_core.specs.declared.request.Style.TheVariants as style
use Rattle.bibkit_core.specs.declared.tally.Tally.{Tally}
use Rattle.biblatex_c.specs.Statuses.{status_number}
use Rattle.biblatex_c.specs.declared.status.Status.{Status}
use Rattle.biblatex_c.specs.declared.status.Status.TheVariants.{Done, TooShort, NotUtf8, Refused, OutOfMemory, UnknownKey, KeyIsThere, NotAKey, NotAName, NotInBraces, DefinitionIsThere, NoFieldLeft, NotBare, UnbalancedQuotes}

-- A call on the buffer `out` and the size `size` leaves this buffer and this size, and returns this status. `Answers` says which bytes
-- may be the result, and `Fails` says with which statuses the call may fail. A result that fits is at the start of the buffer, and the
-- rest of the buffer is unchanged. A longer result leaves the buffer unchanged. In both cases the new size is the length of the result.
-- A failure leaves buffer and size unchanged.
pub data IsEnd (Answers : List ℕ → Type 0) (Fails : Status → Type 0) (out : List ℕ) (size : ℕ) : List ℕ → ℕ → Status → Type 0 where
  done : {answer : List ℕ} → Answers answer → length answer ≤ length out
      → IsEnd Answers Fails out size (answer ++ drop (length answer) out) (length answer) Done
  too_short : {answer : List ℕ} → Answers answer → length out < length answer → IsEnd Answers Fails out size out (length answer) TooShort
  failed : {why : Status} → Fails why → IsEnd Answers Fails out size out size why

-- a call that returns this number ends as `IsEnd` states, with the status that has the number
pub record IsNumberedEnd (Answers : List ℕ → Type 0) (Fails : Status → Type 0) (out : List ℕ) (size : ℕ) (out' : List ℕ)
    (size' number : ℕ) : Type 0 where
  pub status : Status
  pub is : number ≡ status_number status
  pub ends : IsEnd Answers Fails out size out' size' status

-- a call with the text `bytes` may fail with this status: `NotUtf8` only if the bytes aren't UTF-8, `Refused` only if `IsRefused` holds,
-- `OutOfMemory` always, and no other status
abbrev pub TextFails : Type 0 → List ℕ → Status → Type 0
TextFails IsRefused bytes NotUtf8 = IsUtf8 bytes → ⊥
TextFails IsRefused bytes Refused = IsRefused
TextFails IsRefused bytes OutOfMemory = ⊤
TextFails IsRefused bytes _ = ⊥

-- a text isn't a file of the grammar
abbrev pub IsNoFile : List ℕ → Type 0
IsNoFile text = IsFile text → ⊥

-- a text isn't accepted as a bibliography
abbrev pub IsNoBibliography : List ℕ → Type 0
IsNoBibliography text = IsAcceptedText text → ⊥

-- `answer` contains the keys of the entries of the file `text`, in file order, each followed by a line feed
pub record AreKeysInLines (text answer : List ℕ) : Type 0 where
  pub says : FileReading
  pub read : IsRawReading text says
  pub is : answer ≡ lines_of_keys says.entries

-- `answer` is the bibliography of `text`, with each entry written by `write`
pub record IsWrittenAnew (write : Entry → List ℕ) (text answer : List ℕ) : Type 0 where
  pub bibliography : Bibliography
  pub of_text : IsBibliographyOf text bibliography
  pub is : answer ≡ entries_text write bibliography.entries

-- the text of a bibliography in the format `target`: each entry that can be written in the format, after its separator, and then the end
-- of the format
abbrev pub exported_text : Target → Bibliography → List ℕ
exported_text target bibliography =
    texts_after target true bibliography.entries ++ end target (is_first_after target true bibliography.entries)

-- `answer` is the bibliography of `text` in the format `target`
pub record IsWrittenAs (target : Target) (text answer : List ℕ) : Type 0 where
  pub bibliography : Bibliography
  pub of_text : IsBibliographyOf text bibliography
  pub is : answer ≡ exported_text target bibliography

-- `answer` is a JSON array of all findings of `bytes`, each with an empty file name: no code is selected, ignored or switched off, no
-- finding is accepted, there are no conditions, no name is one of a project, and no document is compared
pub record AreFaults (bytes answer : List ℕ) : Type 0 where
  pub lint : Lint
  pub in_json : lint.style ≡ style.Json
  pub any : lint.selection.only.items ≡ []
  pub all : lint.selection.ignored.items ≡ []
  pub new : lint.selection.accepted ≡ None
  pub no_switches : lint.has_switches ≡ false
  pub uncited : lint.cited ≡ None
  pub every : lint.conditions.items ≡ []
  pub no_fields : lint.own.fields.items ≡ []
  pub no_types : lint.own.types.items ≡ []
  pub no_abbreviations : lint.own.abbreviations.items ≡ []
  pub none : Tally
  pub no_errors : none.errors ≡ 0
  pub no_warnings : none.warnings ≡ 0
  pub no_infos : none.infos ≡ 0
  pub found : List ℕ
  pub after : Tally
  pub printed : PrintsFindings lint [] bytes none found after
  pub is : answer ≡ codes "[" ++ (found ++ codes "\n]\n")

-- the document whose text is `text` has a text in quotes whose braces aren't balanced
pub record HasUnbalancedQuotes (text : List ℕ) : Type 0 where
  pub document : Document
  pub same : document.text ≡ text
  pub read : IsDocument document
  pub unbalanced : has_unbalanced_quotes document ≡ true

-- reading `text` as a document to edit may fail with this status: `Refused` only if it isn't a file of the grammar; `UnbalancedQuotes` only
-- if it has a text in quotes whose braces aren't balanced; `OutOfMemory` always; and no other status
abbrev pub ReadingFails : List ℕ → Status → Type 0
ReadingFails text Refused = IsNoFile text
ReadingFails text UnbalancedQuotes = HasUnbalancedQuotes text
ReadingFails text OutOfMemory = ⊤
ReadingFails text _ = ⊥

-- reading the bytes `text` as a document to edit may fail with this status: `NotUtf8` only if they aren't UTF-8, or one of `ReadingFails`
abbrev pub DocumentFails : List ℕ → Status → Type 0
DocumentFails text NotUtf8 = IsUtf8 text → ⊥
DocumentFails text why = ReadingFails text why

-- `answer` is the text after an edit of the document whose text is `text`; `Outcome` relates the documents before and after it. No text in
-- quotes of the document has unbalanced braces.
pub record IsEditedText (Outcome : Document → Document → Type 0) (text answer : List ℕ) : Type 0 where
  pub document : Document
  pub same : document.text ≡ text
  pub read : IsDocument document
  pub balanced : has_unbalanced_quotes document ≡ false
  pub edited : IsEdited (Outcome document) answer

-- an edit of the document whose text is `text` may be refused with the error `why`, by `Refuses`
pub record IsRefusedFor (Refuses : Document → EditError → Type 0) (text : List ℕ) (why : EditError) : Type 0 where
  pub document : Document
  pub same : document.text ≡ text
  pub read : IsDocument document
  pub refused : Refuses document why

-- an edit of `text` with the arguments `others` may fail with this status: `NotUtf8` only if one of these texts isn't UTF-8; `Refused`
-- only if `text` isn't a file of the grammar; `UnbalancedQuotes` only if it has a text in quotes whose braces aren't balanced;
-- `OutOfMemory` always; the status of an edit error only if `Refuses` allows that error; and no other status
abbrev pub EditFails : (Document → EditError → Type 0) → List ℕ → List (List ℕ) → Status → Type 0
EditFails Refuses text others Done = ⊥
EditFails Refuses text others TooShort = ⊥
EditFails Refuses text others NotUtf8 = AllByRecursion IsUtf8 (text ∷ others) → ⊥
EditFails Refuses text others Refused = IsNoFile text
EditFails Refuses text others OutOfMemory = ⊤
EditFails Refuses text others UnknownKey = IsRefusedFor Refuses text edit_error.UnknownKey
EditFails Refuses text others KeyIsThere = IsRefusedFor Refuses text edit_error.KeyIsThere
EditFails Refuses text others NotAKey = IsRefusedFor Refuses text edit_error.NotAKey
EditFails Refuses text others NotAName = IsRefusedFor Refuses text edit_error.NotAName
EditFails Refuses text others NotInBraces = IsRefusedFor Refuses text edit_error.NotInBraces
EditFails Refuses text others DefinitionIsThere = IsRefusedFor Refuses text edit_error.DefinitionIsThere
EditFails Refuses text others NoFieldLeft = IsRefusedFor Refuses text edit_error.NoFieldLeft
EditFails Refuses text others NotBare = IsRefusedFor Refuses text edit_error.NotBare
EditFails Refuses text others UnbalancedQuotes = HasUnbalancedQuotes text

-- the value with a text: without braces if the flag is true
abbrev pub value_with : Bool → List ℕ → SetValue
value_with false text = SetValue.plain_text text
value_with true text = SetValue.bare_text text

-- The document `new` is `document` followed by a line end and the document of the text `added`, and the conditions of `EntriesAdded` hold.
-- If the first line of `document` ends with CR LF, the line end and each line end of `added` are CR LF. Otherwise the line end is LF, and
-- `added` is unchanged. No text in quotes of the added document has unbalanced braces.
abbrev pub WithEntriesOf : List ℕ → Document → Document → Type 0
WithEntriesOf added document new =
    (more : Document) × (more.text ≡ with_line_ends_of document.text added) × IsDocument more × (has_unbalanced_quotes more ≡ false)
    × EntriesAdded document more new

-- adding the document of the text `added` to that of `text` may be refused with the error `why`
pub record IsAddingRefused (text added : List ℕ) (why : EditError) : Type 0 where
  pub document : Document
  pub more : Document
  pub same : document.text ≡ text
  pub read : IsDocument document
  pub same_added : more.text ≡ with_line_ends_of text added
  pub read_added : IsDocument more
  pub refused : EntriesAreRefused document more why

-- adding the second text to the first may fail with this status: `NotUtf8` only if one of them isn't UTF-8; `Refused` only if the first, or
-- the second with line ends by `with_line_ends_of`, isn't a file of the grammar; `UnbalancedQuotes` only if one of these two has a text in
-- quotes whose braces aren't balanced; `OutOfMemory` always; `KeyIsThere`, `NotAKey` and `DefinitionIsThere` only if adding is refused with
-- that error; and no other status
abbrev pub AddFails : List ℕ → List ℕ → Status → Type 0
AddFails text added NotUtf8 = AllByRecursion IsUtf8 (text ∷ added ∷ []) → ⊥
AddFails text added Refused = IsNoFile text ⊎ IsNoFile (with_line_ends_of text added)
AddFails text added UnbalancedQuotes = HasUnbalancedQuotes text ⊎ HasUnbalancedQuotes (with_line_ends_of text added)
AddFails text added OutOfMemory = ⊤
AddFails text added KeyIsThere = IsAddingRefused text added edit_error.KeyIsThere
AddFails text added NotAKey = IsAddingRefused text added edit_error.NotAKey
AddFails text added DefinitionIsThere = IsAddingRefused text added edit_error.DefinitionIsThere
AddFails text added _ = ⊥

-- `answer` is the document of `text` laid out in the default style
pub record IsLaidOut (text answer : List ℕ) : Type 0 where
  pub document : Document
  pub same : document.text ≡ text
  pub read : IsDocument document
  pub style : Style
  pub usual : IsUsual style
  pub is : answer ≡ text_in_style style document.text document.says
