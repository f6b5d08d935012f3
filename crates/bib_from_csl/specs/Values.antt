-- Meaning: words of public contracts.
-- The values of fields. A value is a list of its bytes.
use Rattle.std.specs.Prelude.{ℕ, Bool, ◌==◌, if◌then◌else◌, List, ◌++◌, codes, encode_utf8}
use Rattle.std.specs.List.{flat_map, list_any, slice_split}
use Rattle.std.specs.Str.{chars}
use Rattle.bib_text.specs.Characters as char
use Rattle.bib_syntax.specs.Grammar.{is_word}
use Rattle.bib_chunks.specs.declared.chunk.Chunk.TheVariants.{Normal}
use Rattle.bib_chunks.specs.Values.{alone}
use Rattle.bib_entry.specs.WrittenEntries.{value_bytes}
use Rattle.bib_from_csl.specs.Tags.{tagged_source}

-- a character, or a text for the replaced character
abbrev pub replacing : ℕ → List ℕ → ℕ → List ℕ
replacing old text c = if c == old then text else encode_utf8 c

-- characters, with a text for each that is the replaced character
abbrev pub replaced : ℕ → List ℕ → List ℕ → List ℕ
replaced old text = flat_map (replacing old text)

-- the no-break space
abbrev pub tie : ℕ
tie = 160

-- the value of a field for a plain text
abbrev pub plain_value : List ℕ → List ℕ → List ℕ
plain_value field text = value_bytes field (alone (Normal text))

-- the value of the field `pages`: each en dash is replaced by two hyphens
unfoldable pub pages_value : List ℕ → List ℕ
pages_value text = replaced char.en_dash (codes "--") (chars (plain_value (codes "pages") text))

-- a text between braces
abbrev pub braced : List ℕ → List ℕ
braced text = codes "{" ++ (text ++ codes "}")

-- a text with a tilde for each no-break space
abbrev pub with_ties : List ℕ → List ℕ
with_ties text = replaced tie (codes "~") (chars text)

-- the value of a field for a text with HTML tags
abbrev pub tagged_value : List ℕ → List ℕ
tagged_value text = braced (with_ties (tagged_source text))

-- whether a word is `and` in any ASCII case. BibTeX and Biber divide lists of names at this word, and Biber divides other lists, too.
abbrev pub divides_lists : List ℕ → Bool
divides_lists word = is_word word (codes "and")

-- whether one of the words of a text is `and` in any ASCII case; only spaces separate words
abbrev pub has_and : List ℕ → Bool
has_and text = list_any divides_lists (slice_split (λ b. b == char.space) text)

-- the value of a list field with this text as its only part: in another pair of braces if it contains the word `and` in any ASCII case
unfoldable pub listed_value : List ℕ → List ℕ
listed_value text = if has_and text then braced (tagged_value text) else tagged_value text
