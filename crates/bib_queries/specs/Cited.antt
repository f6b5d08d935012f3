-- Meaning: words of public contracts.
-- The output for the citations of a document: the cited entries and the entries that they refer to, transitively, and before them
-- the definitions that they use and the preambles of the file.
use Rattle.std.specs.Prelude.{◌≡◌, ℕ, ◌+◌, Bool, true, List, ◌++◌, codes, length, map, slice_range}
use Rattle.std.specs.List.{flat_map, list_any}
use Rattle.std.specs.Str.{trim_end}
use Rattle.bib_syntax.specs.Reading.{EntryReading, FieldReading, FileReading}
use Rattle.bib_queries.specs.LineEnds.{line_end_of}
use Rattle.bib_queries.specs.Names.{definition_node, entry_node, used_in_fields}
use Rattle.bib_queries.specs.Needed.{AreMarks, IsNeeded, Node, with_marks}
use Rattle.bib_queries.specs.Preambles.{ArePreambles, preamble_line}
use Rattle.bib_queries.specs.Unread.{has_unread_preamble, unread_line}
use Rattle.bib_syntax.specs.declared.raw.recovery.SkippedBlock.{SkippedBlock}

-- the source text of an entry, from its at sign to its closing brace
abbrev pub excerpt : List ℕ → EntryReading → List ℕ
excerpt text e = slice_range text e.start (e.end + 1)

-- the source text of a definition, from its name to the end of its value, without the white space at its end
abbrev pub definition_text : List ℕ → FieldReading → List ℕ
definition_text text f = trim_end (slice_range text f.name.start f.value.end)

-- a block with a definition, and a line end
abbrev pub definition_line : List ℕ → List ℕ → FieldReading → List ℕ
definition_line line_end text f = codes "@string{" ++ (definition_text text f ++ (codes "}" ++ line_end))

-- the source text of an entry, and a line end
abbrev pub entry_line : List ℕ → List ℕ → EntryReading → List ℕ
entry_line line_end text e = excerpt text e ++ line_end

-- the abbreviations that an entry uses
abbrev pub used_in_entry : EntryReading → List (List ℕ)
used_in_entry e = used_in_fields e.fields

-- the abbreviations that entries use
abbrev pub used_in_entries : List EntryReading → List (List ℕ)
used_in_entries entries = flat_map used_in_entry entries

-- whether the node (an entry or a definition) at an index has one of these names, or such a node refers to it, transitively; true for each
-- index if `all` is true
pub data IsCited (names : List (List ℕ)) (all : Bool) (nodes : List Node) : ℕ → Type 0 where
  any : {index : ℕ} → all ≡ true → IsCited names all nodes index
  needed : {index : ℕ} → IsNeeded names nodes index → IsCited names all nodes index

-- whether `printed` is the output for these citations (`all`: of all entries): the definitions with marks, the parsed preambles, the
-- skipped preambles in braces, and the entries with marks, each followed by the line end of the text. `has_entry` says whether an entry
-- has a mark. A parsed preamble uses no definition. A skipped one may use any, so if one is in braces, all definitions have marks.
pub record IsExcerpt (names : List (List ℕ)) (all : Bool) (text : List ℕ) (says : FileReading) (skipped : List SkippedBlock)
    (printed : List ℕ) (has_entry : Bool) : Type 0 where
  pub entry_marks : List Bool
  pub definition_marks : List Bool
  pub insides : List (List ℕ)
  pub entries : AreMarks (IsCited names all (map entry_node says.entries)) (length says.entries) entry_marks
  pub definitions : AreMarks
      (IsCited (used_in_entries (with_marks entry_marks says.entries)) (has_unread_preamble text skipped)
      (map definition_node says.abbreviations))
      (length says.abbreviations) definition_marks
  pub preambles : ArePreambles says.preamble insides
  pub is : printed ≡ flat_map (definition_line (line_end_of text) text) (with_marks definition_marks says.abbreviations)
      ++ (flat_map (preamble_line (line_end_of text)) insides
      ++ (flat_map (unread_line (line_end_of text) text) skipped
      ++ flat_map (entry_line (line_end_of text) text) (with_marks entry_marks says.entries)))
  pub found : has_entry ≡ list_any (λ mark. mark) entry_marks
