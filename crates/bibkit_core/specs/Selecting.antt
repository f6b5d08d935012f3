-- Meaning: words of public contracts.
-- The entries of files that meet conditions, as they are printed, and their keys.
use Rattle.std.specs.Prelude.{◌≡◌, ◌==◌, ◌||◌, ◌&&◌, ℕ, Bool, false, not, if◌then◌else◌, List, [], Option, Some, None, filter, length, map, string_bytes}
use Rattle.std.specs.Borrow.{Bor}
use Rattle.std.specs.Global.{Vec}
use Rattle.bib_source.specs.declared.decoding.Decoded.{Decoded}
use Rattle.bib_queries.specs.Answers.{has_key, lines_of_keys, passing_lines}
use Rattle.bib_queries.specs.Needed.{is_listed}
use Rattle.bib_syntax.specs.Reading.{FileReading}
use Rattle.bib_syntax.specs.Recovery.{IsRecovery}
use Rattle.bib_syntax.specs.declared.raw.recovery.SkippedBlock.{SkippedBlock}
use Rattle.bibkit_core.specs.Conditions.{AreSelectedKeys, entries_with}
use Rattle.bibkit_core.specs.Tasks.{AddsSkippedOf, AreDecoded}
use Rattle.bibkit_core.specs.declared.request.Selected.{Selected}
use Rattle.bibkit_core.specs.declared.selecting.Selecting.{Selecting}

-- `printed` has the keys of the entries of a text that have one of these keys, in the order of the text, each followed by a line feed;
-- `has_entry` says whether there is such an entry
pub record AreKeysPrinted (keys : List (List ℕ)) (text printed : List ℕ) (has_entry : Bool) : Type 0 where
  pub says : FileReading
  pub skipped : List SkippedBlock
  pub recovery : IsRecovery text says skipped
  pub is : printed ≡ lines_of_keys (entries_with keys says.entries)
  pub found : has_entry ≡ not (length printed == 0)

-- `printed` has the source text of the entries of a text whose key is both in `wanted` and in `keys`, in the order of the text, each
-- followed by the line end of the text; `has_entry` says whether there is such an entry
pub record AreCommonPrinted (wanted keys : List (List ℕ)) (text printed : List ℕ) (has_entry : Bool) : Type 0 where
  pub says : FileReading
  pub skipped : List SkippedBlock
  pub recovery : IsRecovery text says skipped
  pub is : printed ≡ passing_lines (has_key (filter (is_listed keys) wanted)) text says.entries
  pub found : has_entry ≡ not (length printed == 0)

-- `printed` is the output for a text: the entries with the requested keys, or without them the keys of the entries
abbrev pub ArePrintedOf : Option (Vec (Bor (List ℕ))) → List (List ℕ) → List ℕ → List ℕ → Bool → Type 0
ArePrintedOf None keys text printed has_entry = AreKeysPrinted keys text printed has_entry
ArePrintedOf (Some wanted) keys text printed has_entry = AreCommonPrinted (map (λ key. key.now) wanted.items) keys text printed has_entry

-- `printed` is the output for the entries of a text whose key is that of an entry that meets all conditions. A block with a syntax error
-- counts as if it weren't in the text: its entry is neither tested nor printed, and no entry inherits from it.
pub record IsSelectedAnswer (selected : Selected) (text printed : List ℕ) (has_entry : Bool) : Type 0 where
  pub says : FileReading
  pub skipped : List SkippedBlock
  pub recovery : IsRecovery text says skipped
  pub keys : List (List ℕ)
  pub are_selected : AreSelectedKeys selected.conditions.items says keys
  pub are_printed : ArePrintedOf selected.keys keys text printed has_entry

-- `text` is the output for a file with these bytes; `has_entry`: the output has an entry or a key
pub record PrintsSelected (selected : Selected) (bytes text : List ℕ) (has_entry : Bool) : Type 0 where
  pub decoded : Decoded
  pub of_bytes : AreDecoded bytes decoded
  pub answer : IsSelectedAnswer selected (string_bytes decoded.text) text has_entry

-- the status: 1 if nothing was found or a block was skipped, otherwise 0
abbrev pub selecting_status : Bool → Bool → ℕ
selecting_status is_found has_skipped = if is_found && not has_skipped then 0 else 1

-- the task before the first file
pub record BeginsSelecting (selected : Selected) (task : Selecting) : Type 0 where
  pub selected_is : task.selected.now ≡ selected
  pub none_found : task.is_found ≡ false
  pub none_skipped : task.skipped.has_any ≡ false

-- the text of the task before the files: none
abbrev pub selecting_begins : Selecting → List ℕ
selecting_begins task = []

-- the output of the task for a file, and the task afterwards; `is_found`: the output so far has an entry or a key; `skipped` has the lines
-- for the skipped blocks of the file
abbrev pub selecting_prints : Selecting → List ℕ → List ℕ → List ℕ → Selecting → Type 0
selecting_prints old name bytes text new =
    (new.selected.now ≡ old.selected.now)
    × ((has_entry : Bool) × PrintsSelected old.selected.now bytes text has_entry × (new.is_found ≡ (old.is_found || has_entry)))
    × AddsSkippedOf name bytes old.skipped new.skipped

-- the messages of the task about the last file: a line for each skipped block
abbrev pub selecting_messages : Selecting → List ℕ
selecting_messages task = string_bytes task.skipped.lines

-- the text of the task after the files (none), and its status
abbrev pub selecting_ends : Selecting → List ℕ → ℕ → Type 0
selecting_ends task text status = (text ≡ []) × (status ≡ selecting_status task.is_found task.skipped.has_any)
