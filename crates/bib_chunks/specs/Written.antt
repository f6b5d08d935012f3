-- Meaning: words of public contracts.
-- Values as they are written in a file. A written text is a list of its characters.
use Rattle.std.specs.Prelude.{ℕ, Bool, true, false, ◌==◌, ◌||◌, if◌then◌else◌, List, [], ◌∷◌, ◌++◌, codes}
use Rattle.std.specs.List.{flat_map}
use Rattle.std.specs.Str.{chars}
use Rattle.bib_chunks.specs.declared.chunk.Chunk.{Chunk}
use Rattle.bib_chunks.specs.declared.chunk.Chunk.TheVariants.{Normal, Verbatim, Math}
use Rattle.bib_text.specs.declared.spanned.Spanned.{Spanned}
use Rattle.bib_text.specs.Characters as char

-- the characters that are escaped by a backslash in every field: `{`, `}` and the backslash
unfoldable pub is_grouping : ℕ → Bool
is_grouping c = c == char.open_brace || c == char.close_brace || c == char.backslash

-- the characters that are escaped by a backslash only outside verbatim fields: `#`, `&`, `%`, `$`, `_`
unfoldable pub is_reserved : ℕ → Bool
is_reserved c = c == char.hash || c == char.ampersand || c == char.percent || c == char.dollar || c == char.underscore

-- How a character is written. A grouping one is written after a backslash in every field. In a verbatim field, any other is
-- unchanged. In other fields, a reserved one is written after a backslash, the tilde and the circumflex as commands, and any
-- other unchanged.
unfoldable pub char_spelling : Bool → ℕ → List ℕ
char_spelling is_verbatim c =
    if is_grouping c then char.backslash ∷ c ∷ []
    else if is_verbatim then c ∷ []
    else if is_reserved c then char.backslash ∷ c ∷ []
    else if c == char.tilde then codes "\\textasciitilde{}"
    else if c == char.circumflex then codes "\\textasciicircum{}"
    else c ∷ []

-- how a text is written, character by character
abbrev pub spelling : Bool → List ℕ → List ℕ
spelling is_verbatim = flat_map (char_spelling is_verbatim)

-- how a chunk is written without braces and dollar signs around it: escaped, except math outside verbatim fields
abbrev pub written_chunk : Chunk → Bool → List ℕ
written_chunk (Normal text) is_verbatim = spelling is_verbatim (chars text)
written_chunk (Verbatim text) is_verbatim = spelling is_verbatim (chars text)
written_chunk (Math text) true = spelling true (chars text)
written_chunk (Math text) false = chars text

-- the text before a chunk; the flag says whether the braces around verbatim chunks are open. They open before a
-- verbatim chunk and close before a normal one. Math has a dollar sign before it and neither opens nor closes them.
abbrev pub lead : Bool → Chunk → List ℕ
lead true (Normal text) = char.close_brace ∷ []
lead false (Normal text) = []
lead true (Verbatim text) = []
lead false (Verbatim text) = char.open_brace ∷ []
lead is_open (Math text) = char.dollar ∷ []

-- the text after a chunk: the second dollar sign of math
abbrev pub trail : Chunk → List ℕ
trail (Normal text) = []
trail (Verbatim text) = []
trail (Math text) = char.dollar ∷ []

-- whether the braces around verbatim chunks are open after a chunk; the flag says whether they are open before it
abbrev pub is_open_after : Bool → Chunk → Bool
is_open_after is_open (Normal text) = false
is_open_after is_open (Verbatim text) = true
is_open_after is_open (Math text) = is_open

-- how chunks are written one after another; the second flag says whether the braces around verbatim chunks are open
-- before them. At the end they are closed if they are open.
abbrev pub written_chunks : Bool → Bool → List (Spanned Chunk) → List ℕ
written_chunks is_verbatim is_open [] = if is_open then char.close_brace ∷ [] else []
written_chunks is_verbatim is_open (c ∷ rest) =
    lead is_open c.v ++ written_chunk c.v is_verbatim ++ trail c.v ++ written_chunks is_verbatim (is_open_after is_open c.v) rest

-- how a value is written: its chunks between braces; the flag says whether the field is a verbatim one
abbrev pub written_value : List (Spanned Chunk) → Bool → List ℕ
written_value chunks is_verbatim = char.open_brace ∷ (written_chunks is_verbatim false chunks ++ char.close_brace ∷ [])
