-- Meaning: words of public contracts.
-- Chunks as plain text. A formatted text is a list of its characters.
use Rattle.std.specs.Prelude.{ℕ, Bool, true, false, not, ◌==◌, ◌||◌, if◌then◌else◌, List, [], ◌∷◌, ◌++◌}
use Rattle.std.specs.Char.{is_whitespace}
use Rattle.std.specs.List.{flat_map}
use Rattle.std.specs.Str.{chars}
use Rattle.std.specs.Char.Unicode.ToLowercase.{to_lowercase}
use Rattle.std.specs.Char.Unicode.ToUppercase.{to_uppercase}
use Rattle.bib_chunks.specs.declared.chunk.Chunk.{Chunk}
use Rattle.bib_chunks.specs.declared.chunk.Chunk.TheVariants.{Normal, Verbatim, Math}
use Rattle.bib_text.specs.declared.spanned.Spanned.{Spanned}
use Rattle.bib_chunks.specs.Styled.{Atom}
use Rattle.bib_text.specs.Characters as char

-- the characters that break a line: line feed and carriage return
abbrev pub is_break : ℕ → Bool
is_break c = c == char.line_feed || c == char.carriage_return

-- the characters that don't break a line
abbrev pub is_unbroken : ℕ → Bool
is_unbroken c = not (is_break c)

-- whether a text ends in white space; for an empty text it is `empty`
abbrev pub ends_in_space : Bool → List ℕ → Bool
ends_in_space empty [] = empty
ends_in_space empty (c ∷ cs) = ends_in_space (is_whitespace c) cs

-- the replacement of a character of a normal text. A line break is replaced by a space, or by nothing if the flag is true. Any
-- other character is kept.
abbrev pub char_on_line : Bool → ℕ → List ℕ
char_on_line space c = if is_break c then (if space then [] else char.space ∷ []) else c ∷ []

-- a normal text on one line; the flag says whether a line break at its start is dropped. After its first character is written,
-- a line break is dropped if the last character written is white space.
abbrev pub flowing : Bool → List ℕ → List ℕ
flowing space [] = []
flowing space (c ∷ cs) = char_on_line space c ++ flowing (ends_in_space space (char_on_line space c)) cs

-- Whether a line break right after a chunk is dropped: whether the formatted chunk ends in white space. `space` says whether one
-- right before the chunk is. Math leaves it unchanged, as does a normal chunk that is empty once formatted. After an empty
-- verbatim chunk it is false.
abbrev pub space_after : Bool → Chunk → Bool
space_after space (Normal text) = ends_in_space space (flowing space (chars text))
space_after space (Verbatim text) = ends_in_space false (chars text)
space_after space (Math text) = space

-- One chunk, formatted: normal text on one line and recased, verbatim text unchanged, and math between dollar signs. The flag
-- says whether a line break at its start is dropped.
abbrev pub formatted_chunk : (List ℕ → List ℕ) → Bool → Chunk → List ℕ
formatted_chunk recased space (Normal text) = recased (flowing space (chars text))
formatted_chunk recased space (Verbatim text) = chars text
formatted_chunk recased space (Math text) = char.dollar ∷ (chars text ++ char.dollar ∷ [])

-- chunks formatted without change of case; the flag says whether a line break at their start is dropped
abbrev pub formatted_chars_after : Bool → List (Spanned Chunk) → List ℕ
formatted_chars_after space [] = []
formatted_chars_after space (c ∷ rest) = formatted_chunk (λ cs. cs) space c.v ++ formatted_chars_after (space_after space c.v) rest

-- chunks formatted without change of case
abbrev pub formatted_chars : List (Spanned Chunk) → List ℕ
formatted_chars = formatted_chars_after false

-- A styled text, formatted: normal characters on one line, verbatim ones unchanged, and math between dollar signs. The flag
-- says whether a line break at its start is dropped.
abbrev pub formatted_atoms : Bool → List Atom → List ℕ
formatted_atoms space [] = []
formatted_atoms space (Atom.normal c ∷ rest) = char_on_line space c ++ formatted_atoms (ends_in_space space (char_on_line space c)) rest
formatted_atoms space (Atom.verbatim c ∷ rest) = c ∷ formatted_atoms (is_whitespace c) rest
formatted_atoms space (Atom.math text ∷ rest) = char.dollar ∷ (text ++ char.dollar ∷ formatted_atoms space rest)

-- a character in upper case if it begins a sentence, otherwise in lower case; by Unicode's mappings, which map ASCII
-- characters to ASCII characters
abbrev pub upper_or_lower : Bool → ℕ → List ℕ
upper_or_lower true c = to_uppercase c
upper_or_lower false c = to_lowercase c

-- a text in lower case, character by character, except that the first character is in upper case if the text begins a
-- sentence
abbrev pub sentence_case : Bool → List ℕ → List ℕ
sentence_case begins [] = []
sentence_case begins (c ∷ cs) = upper_or_lower begins c ++ flat_map to_lowercase cs

-- chunks formatted in sentence case. The first flag says whether the first of them begins the sentence, the second one
-- whether a line break at their start is dropped.
abbrev pub sentence_after : Bool → Bool → List (Spanned Chunk) → List ℕ
sentence_after begins space [] = []
sentence_after begins space (c ∷ rest) =
    formatted_chunk (sentence_case begins) space c.v ++ sentence_after false (space_after space c.v) rest

-- chunks formatted in sentence case: normal text is in lower case. If the first chunk is normal, its first character is
-- in upper case.
abbrev pub sentence : List (Spanned Chunk) → List ℕ
sentence = sentence_after true false
