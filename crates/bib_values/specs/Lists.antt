-- Meaning: words of public contracts.
-- Lists of texts with commas between them, as in `keywords`. A list is written as normal text, since the parser cuts a
-- list only in normal text.
use Rattle.std.specs.Prelude.{◌≡◌, ◌<◌, ℕ, length, Bool, true, not, ◌==◌, ◌&&◌, map, List, codes}
use Rattle.std.specs.List.{list_all, AllByRecursion}
use Rattle.std.specs.Str.{IsUtf8, chars}
use Rattle.bib_chunks.specs.declared.chunk.Chunk.TheVariants.{Normal}
use Rattle.bib_chunks.specs.Formatted.{is_break}
use Rattle.bib_chunks.specs.Cuts.{comma_list}
use Rattle.bib_chunks.specs.Values.{Value, text, alone}
use Rattle.bib_chunks.specs.Separated.{joined_by}
use Rattle.bib_text.specs.Characters as char

-- the texts that are parsed from chunks: those of the parts of a comma list
unfoldable pub strings_read : Value → List (List ℕ)
strings_read chunks = map text (comma_list chunks)

-- how texts are written: each as one normal chunk, with `,` between each two
abbrev pub strings_written : List (List ℕ) → Value
strings_written texts = joined_by (codes ",") (map (λ t. alone (Normal t)) texts)

-- whether a character is kept in a comma list: it is neither a comma nor a line break
abbrev pub is_plain_in_list : ℕ → Bool
is_plain_in_list c = not (c == char.comma) && not (is_break c)

-- a UTF-8 text without commas and line breaks
pub record IsPlain (text : List ℕ) : Type 0 where
  pub utf8 : IsUtf8 text
  pub plain : list_all is_plain_in_list (chars text) ≡ true

-- the lists of texts that parse from their written form: at least one text, and each text is plain (`IsPlain`)
abbrev pub StringsKept : List (List ℕ) → Type 0
StringsKept texts = (0 < length texts) × AllByRecursion IsPlain texts
