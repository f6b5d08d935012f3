-- Meaning: words of public contracts.
-- Settled entries. If no two have the same key, their output in BibLaTeX's types and fields parses back to them, mapped to
-- these types and fields.
use Rattle.std.specs.Prelude.{◌≡◌, ℕ, false, List, map, length, bytes_eq}
use Rattle.std.specs.Char.{to_ascii_lowercase}
use Rattle.std.specs.FinMap.{entries}
use Rattle.std.specs.List.{AllByRecursion, IsDistinct, list_any}
use Rattle.bib_text.specs.Enums.{words}
use Rattle.bib_text.specs.Places.{Run, place}
use Rattle.bib_text.specs.declared.spanned.Spanned.{Spanned}
use Rattle.bib_chunks.specs.declared.chunk.Chunk.{Chunk}
use Rattle.bib_chunks.specs.Settled.{IsSettled}
use Rattle.bib_chunks.specs.Styled.{styled}
use Rattle.bib_tables.specs.VerbatimFields.{is_verbatim_field}
use Rattle.bib_syntax.specs.Characters.{is_key}
use Rattle.bib_syntax.specs.Grammar.{Identifier}
use Rattle.bib_syntax.specs.Grammar.Mode.{any}
use Rattle.bib_syntax.specs.Reading.{Part}
use Rattle.bib_entry.specs.declared.entry.Entry.{Entry}
use Rattle.std.specs.Prelude.{codes}

-- the whole text is a key: only key characters, possibly none
abbrev pub IsKey : List ℕ → Type 0
IsKey text = Run is_key (place text 0) (place text (length text))

-- the whole text is an identifier
abbrev pub IsIdentifier : List ℕ → Type 0
IsIdentifier text = (p : Part) × Identifier any (place text 0) p (place text (length text))

-- the names of the fields that claim names for their entry, or name entries from which it inherits
abbrev pub link_names : List (List ℕ)
link_names = words (codes "ids crossref xdata")

-- a settled field name: an identifier without uppercase ASCII letters, other than the names in `link_names`
pub record IsSettledName (name : List ℕ) : Type 0 where
  pub identifier : IsIdentifier name
  pub small : map to_ascii_lowercase name ≡ name
  pub apart : list_any (bytes_eq name) link_names ≡ false

-- a settled field: its name is settled, and so is its styled text, by the rules for fields with this name (verbatim or not)
pub record IsSettledField (f : List ℕ × List (Spanned Chunk)) : Type 0 where
  pub name : IsSettledName f.0
  pub value : IsSettled (styled f.1) (is_verbatim_field f.0)

-- a settled entry: its key consists of key characters, and each field is settled
pub record IsSettledEntry (entry : Entry) : Type 0 where
  pub key : IsKey entry.key
  pub fields : AllByRecursion IsSettledField (entries entry.fields)

-- a list of settled entries, no two with the same key
pub record AreSettled (all : List Entry) : Type 0 where
  pub keys : IsDistinct bytes_eq (map (λ e. e.key) all)
  pub each : AllByRecursion IsSettledEntry all
