-- Meaning: words of public contracts.
-- Lists in the value of a field, and how they are cut.
use Rattle.std.specs.Prelude.{ℕ, ◌+◌, ◌-◌, ◌^◌, ◌==◌, ◌&&◌, encode_utf8_all, Bool, true, false, List, [], ◌∷◌, ◌++◌, length, min, if◌then◌else◌, Option, Some, None, option_map}
use Rattle.std.specs.List.{slice_split}
use Rattle.std.specs.Char.{is_whitespace, len_utf8}
use Rattle.std.specs.Str.{chars, trim_start, trim_end}
use Rattle.std.specs.declared.ops.Range.{Range}
use Rattle.bib_chunks.specs.declared.chunk.Chunk.{Chunk}
use Rattle.bib_chunks.specs.declared.chunk.Chunk.TheVariants.{Normal, Verbatim, Math}
use Rattle.bib_text.specs.declared.spanned.Spanned.{Spanned}
use Rattle.bib_text.specs.Characters as char

-- the offset `n` bytes after `at`, at most the greatest 64-bit number: a detached span stays detached
abbrev pub further : ℕ → ℕ → ℕ
further at n = min (at + n) (2 ^ 64 - 1)

-- a chunk with the span from `start` to `end`
abbrev pub with_span : Chunk → ℕ → ℕ → Spanned Chunk
with_span chunk start end = record { v = chunk; span = record { start = start; end = end } }

-- a text, without the white space at its start if the flag is true: the text follows a separator or begins the list
abbrev pub trimmed_start : Bool → List ℕ → List ℕ
trimmed_start true text = trim_start text
trimmed_start false text = text

-- a text, without the white space at its end if the flag is true: a separator follows the text, or it ends the list
abbrev pub trimmed_end : Bool → List ℕ → List ℕ
trimmed_end true text = trim_end text
trimmed_end false text = text

-- a part of a normal chunk's text as a chunk. `whole` and `span` are the text and the span of the chunk, and `at` is the number of bytes
-- of `whole` before the part. The part starts that many bytes after the chunk's start and is as long as its text. A part that is the
-- whole text has the chunk's span, which may be longer or shorter than the text, as for a command.
abbrev pub chunk_part : List ℕ → Range ℕ → ℕ → List ℕ → Spanned Chunk
chunk_part whole span at text =
    if length text == length whole then with_span (Normal text) span.start span.end
    else with_span (Normal text) (further span.start at) (further (further span.start at) (length text))

-- the same as `chunk_part`, without the white space at the part's start (if `first`) and at its end (if `last`). Its
-- span is that of the remaining text.
abbrev pub piece : List ℕ → Range ℕ → ℕ → Bool → Bool → List ℕ → Spanned Chunk
piece whole span at first last text =
    chunk_part whole span (at + (length text - length (trimmed_start first text))) (trimmed_end last (trimmed_start first text))

-- the pieces of a normal chunk that is cut at separators, without the white space next to a separator. The arguments
-- are the length of a separator in bytes, the chunk's text and span, and the number of bytes before the first piece.
-- Then follow whether a separator comes before that piece, and the texts between the separators, by characters.
abbrev pub pieces_between : ℕ → List ℕ → Range ℕ → ℕ → Bool → List (List ℕ) → List (Spanned Chunk)
pieces_between width whole span at following [] = []
pieces_between width whole span at following (text ∷ []) = piece whole span at following false (encode_utf8_all text) ∷ []
pieces_between width whole span at following (text ∷ next ∷ more) =
    piece whole span at following true (encode_utf8_all text)
    ∷ pieces_between width whole span (at + (length (encode_utf8_all text) + width)) true (next ∷ more)

-- the pieces of a chunk in a list. `width` is the length of a separator in bytes, and `between` returns the texts
-- between the separators of a text. A chunk that isn't normal is one piece.
abbrev pub pieces : ℕ → (List ℕ → List (List ℕ)) → Chunk → Range ℕ → List (Spanned Chunk)
pieces width between (Normal text) span = pieces_between width text span 0 false (between (chars text))
pieces width between (Verbatim text) span = with_span (Verbatim text) span.start span.end ∷ []
pieces width between (Math text) span = with_span (Math text) span.start span.end ∷ []

-- parts of a list with these chunks prepended to the first part; if there are no parts, the chunks are the only one
abbrev pub onto : List (Spanned Chunk) → List (List (Spanned Chunk)) → List (List (Spanned Chunk))
onto chunks [] = chunks ∷ []
onto chunks (part ∷ parts) = (chunks ++ part) ∷ parts

-- the parts of a list that begins with the pieces of a chunk; `parts` are the parts after that chunk. The last piece is
-- prepended to the first of these; each other piece is a part.
abbrev pub joined_parts : List (Spanned Chunk) → List (List (Spanned Chunk)) → List (List (Spanned Chunk))
joined_parts [] parts = parts
joined_parts (piece ∷ []) parts = onto (piece ∷ []) parts
joined_parts (piece ∷ next ∷ more) parts = (piece ∷ []) ∷ joined_parts (next ∷ more) parts

-- the parts of a list that is cut at separators, with the arguments of `pieces`; without chunks, the list has one empty
-- part
abbrev pub list_parts : ℕ → (List ℕ → List (List ℕ)) → List (Spanned Chunk) → List (List (Spanned Chunk))
list_parts width between [] = [] ∷ []
list_parts width between (c ∷ rest) = joined_parts (pieces width between c.v c.span) (list_parts width between rest)

-- the texts between the commas of a text, by characters
abbrev pub between_commas : List ℕ → List (List ℕ)
between_commas = slice_split (λ c. c == char.comma)

-- the parts of a comma list: it is cut at each comma of a normal chunk
abbrev pub comma_list : List (Spanned Chunk) → List (List (Spanned Chunk))
comma_list = list_parts 1 between_commas

-- whether characters begin with white space
abbrev pub begins_with_space : List ℕ → Bool
begins_with_space [] = false
begins_with_space (c ∷ cs) = is_whitespace c

-- whether three characters are the word `and`
abbrev pub is_and : ℕ → ℕ → ℕ → Bool
is_and a n d = a == char.letter_a && n == char.letter_n && d == char.letter_d

-- texts with these characters prepended to the first one; if there are no texts, the characters are the only one
abbrev pub prepend : List ℕ → List (List ℕ) → List (List ℕ)
prepend cs [] = cs ∷ []
prepend cs (text ∷ texts) = (cs ++ text) ∷ texts

-- the texts between the words `and` of a text, by characters. Such a word has white space right before and after it.
-- The flag says whether white space comes before the text.
abbrev pub between_ands : Bool → List ℕ → List (List ℕ)
between_ands space (a ∷ n ∷ d ∷ rest) =
    if space && is_and a n d && begins_with_space rest then [] ∷ between_ands false rest
    else prepend (a ∷ []) (between_ands (is_whitespace a) (n ∷ d ∷ rest))
between_ands space rest = rest ∷ []

-- a copy of a chunk; a normal one is without the white space at its start (if `first`) and at its end (if `last`)
abbrev pub trimmed_chunk : Bool → Bool → Chunk → Range ℕ → Spanned Chunk
trimmed_chunk first last (Normal text) span = piece text span 0 first last text
trimmed_chunk first last (Verbatim text) span = with_span (Verbatim text) span.start span.end
trimmed_chunk first last (Math text) span = with_span (Math text) span.start span.end

-- chunks without white space at the start of the first one (if `first`) and at the end of the last one, if these are normal
abbrev pub trimmed_chunks : Bool → List (Spanned Chunk) → List (Spanned Chunk)
trimmed_chunks first [] = []
trimmed_chunks first (c ∷ []) = trimmed_chunk first true c.v c.span ∷ []
trimmed_chunks first (c ∷ next ∷ more) = trimmed_chunk first false c.v c.span ∷ trimmed_chunks false (next ∷ more)

-- chunks without the white space at the start of the first one and at the end of the last one, if these are normal
abbrev pub trimmed_ends : List (Spanned Chunk) → List (Spanned Chunk)
trimmed_ends = trimmed_chunks true

-- The parts of an `and` list. First its ends are trimmed. Then it is cut at each word `and` that has white space right before
-- and after it inside one normal chunk.
abbrev pub and_list : List (Spanned Chunk) → List (List (Spanned Chunk))
and_list chunks = list_parts 3 (between_ands false) (trimmed_ends chunks)

-- the characters before and after the first one that is `separator`; none if it doesn't occur
abbrev pub cut_characters : ℕ → List ℕ → Option (List ℕ × List ℕ)
cut_characters separator [] = None
cut_characters separator (c ∷ cs) =
    if c == separator then Some ([], cs)
    else option_map (λ both. (c ∷ both.0, both.1)) (cut_characters separator cs)

-- the two pieces of a normal chunk that is cut at a separator of `width` bytes. `whole` and `span` are the chunk's text
-- and span, `both` the characters of the text before and after the separator.
abbrev pub both_pieces : ℕ → List ℕ → Range ℕ → List ℕ × List ℕ → Spanned Chunk × Spanned Chunk
both_pieces width whole span both = (
  piece whole span 0 false true (encode_utf8_all both.0),
  piece whole span (length (encode_utf8_all both.0) + width) true false (encode_utf8_all both.1),
)

-- The pieces of a normal chunk before and after its first `separator`, without the white space next to it. None if the chunk
-- isn't normal or lacks `separator`.
abbrev pub halves : Chunk → Range ℕ → ℕ → Option (Spanned Chunk × Spanned Chunk)
halves (Normal text) span separator = option_map (both_pieces (len_utf8 separator) text span) (cut_characters separator (chars text))
halves (Verbatim text) span separator = None
halves (Math text) span separator = None

-- a cut with `chunks` prepended to the chunks before it
abbrev pub cut_after : List (Spanned Chunk) → Option (List (Spanned Chunk) × List (Spanned Chunk))
    → Option (List (Spanned Chunk) × List (Spanned Chunk))
cut_after chunks None = None
cut_after chunks (Some cut) = Some (chunks ++ cut.0, cut.1)

-- the cut of a chunk and the chunks `rest` after it, from the halves of the chunk and the cut of `rest`
abbrev pub cut_first : Spanned Chunk → List (Spanned Chunk) → Option (Spanned Chunk × Spanned Chunk)
    → Option (List (Spanned Chunk) × List (Spanned Chunk)) → Option (List (Spanned Chunk) × List (Spanned Chunk))
cut_first c rest (Some both) later = Some (both.0 ∷ [], both.1 ∷ rest)
cut_first c rest None later = cut_after (c ∷ []) later

-- the chunks before and after the first `separator` in a normal chunk; none if no normal chunk contains it
abbrev pub cut_at : List (Spanned Chunk) → ℕ → Option (List (Spanned Chunk) × List (Spanned Chunk))
cut_at [] separator = None
cut_at (c ∷ rest) separator = cut_first c rest (halves c.v c.span separator) (cut_at rest separator)
