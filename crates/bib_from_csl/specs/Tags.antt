-- Meaning: words of public contracts.
-- Texts with HTML tags, written in LaTeX. A text is a list of its bytes.
use Rattle.std.specs.Prelude.{ℕ, zero, suc, ◌+◌, ◌-◌, ◌==◌, false, nat_lt, if◌then◌else◌, List, [], ◌∷◌, ◌++◌, length, drop, eqb, codes, encode_utf8_all, replicate, Option, Some, None, option_map}
use Rattle.std.specs.List.{after_first, before_first, position_or_len, slice_split, starts_with}
use Rattle.std.specs.Option.{option_or}
use Rattle.std.specs.Str.{chars}
use Rattle.bib_text.specs.Characters as char
use Rattle.bib_chunks.specs.Written.{spelling}
use Rattle.bib_from_csl.specs.declared.tags.Tag.{Tag}
use Rattle.bib_from_csl.specs.declared.tags.Tag.TheVariants.{Italic, Bold, Superscript, Subscript, SmallCapitals, KeepsCase}

-- the text after a prefix, if the text begins with it
abbrev pub without_prefix : List ℕ → List ℕ → Option (List ℕ)
without_prefix prefix text = if starts_with eqb text prefix then Some (drop (length prefix) text) else None

-- a tag without its less-than sign
abbrev pub tag_name : Tag → List ℕ
tag_name Italic = codes "i>"
tag_name Bold = codes "b>"
tag_name Superscript = codes "sup>"
tag_name Subscript = codes "sub>"
tag_name SmallCapitals = codes "span style=\"font-variant:small-caps;\">"
tag_name KeepsCase = codes "span class=\"nocase\">"

-- the LaTeX command of a tag, if there is one, and an opening brace
abbrev pub command_of : Tag → List ℕ
command_of Italic = codes "\\emph{"
command_of Bold = codes "\\textbf{"
command_of Superscript = codes "\\textsuperscript{"
command_of Subscript = codes "\\textsubscript{"
command_of SmallCapitals = codes "\\textsc{"
command_of KeepsCase = codes "{"

-- this tag and the text after it, if a piece (the text after a less-than sign) begins with the rest of the tag
abbrev pub opened_by : List ℕ → Tag → Option (Tag × List ℕ)
opened_by piece tag = option_map (λ rest. (tag, rest)) (without_prefix (tag_name tag) piece)

-- an opening tag and the text after it, if a piece (the text after a less-than sign) begins with the rest of the tag
abbrev pub opened : List ℕ → Option (Tag × List ℕ)
opened piece =
    option_or (option_or (option_or (option_or (option_or (opened_by piece Italic) (opened_by piece Bold)) (opened_by piece Superscript))
    (opened_by piece Subscript)) (opened_by piece SmallCapitals)) (opened_by piece KeepsCase)

-- the text after a closing tag, if a piece (the text after a less-than sign) begins with the rest of the tag
abbrev pub closed : List ℕ → Option (List ℕ)
closed piece =
    option_or (option_or
    (option_or (option_or (without_prefix (codes "/i>") piece) (without_prefix (codes "/b>") piece))
    (without_prefix (codes "/sup>") piece))
    (without_prefix (codes "/sub>") piece)) (without_prefix (codes "/span>") piece)

-- a text with the special characters of LaTeX escaped
abbrev pub spelled_text : List ℕ → List ℕ
spelled_text text = encode_utf8_all (spelling false (chars text))

-- the output for a piece that begins with no tag, or closes one while none is open
abbrev pub untagged : List ℕ → List ℕ
untagged piece = codes "<" ++ spelled_text piece

-- the output for a piece with this many open tags. If the piece begins with a closing tag, the last argument is the text after the tag.
abbrev pub closing_text : ℕ → List ℕ → Option (List ℕ) → List ℕ
closing_text depth piece None = untagged piece
closing_text zero piece (Some rest) = untagged piece
closing_text (suc depth) piece (Some rest) = codes "}" ++ spelled_text rest

-- the output for a piece with this many open tags. If the piece begins with an opening tag, the last argument is the tag and the text
-- after it.
abbrev pub opening_text : ℕ → List ℕ → Option (Tag × List ℕ) → List ℕ
opening_text depth piece (Some found) = command_of found.0 ++ spelled_text found.1
opening_text depth piece None = closing_text depth piece (closed piece)

-- the output for a piece after a less-than sign, with this many open tags
abbrev pub tag_piece_text : ℕ → List ℕ → List ℕ
tag_piece_text depth piece = opening_text depth piece (opened piece)

-- the number of open tags after a piece without an opening tag; if the piece begins with a closing tag, the last argument is the text
-- after the tag
abbrev pub open_after_end : ℕ → Option (List ℕ) → ℕ
open_after_end depth None = depth
open_after_end depth (Some rest) = depth - 1

-- the number of open tags after a piece; if the piece begins with an opening tag, the last argument is the tag and the text after it
abbrev pub open_after_tag : ℕ → List ℕ → Option (Tag × List ℕ) → ℕ
open_after_tag depth piece (Some found) = depth + 1
open_after_tag depth piece None = open_after_end depth (closed piece)

-- the number of open tags after a piece
abbrev pub open_after_piece : ℕ → List ℕ → ℕ
open_after_piece depth piece = open_after_tag depth piece (opened piece)

-- the output for pieces, with this many open tags before them
abbrev pub pieces_text : ℕ → List (List ℕ) → List ℕ
pieces_text depth [] = []
pieces_text depth (piece ∷ pieces) = tag_piece_text depth piece ++ pieces_text (open_after_piece depth piece) pieces

-- the number of open tags after pieces
abbrev pub open_after_pieces : ℕ → List (List ℕ) → ℕ
open_after_pieces depth [] = depth
open_after_pieces depth (piece ∷ pieces) = open_after_pieces (open_after_piece depth piece) pieces

-- a closing brace for each of this many open tags
abbrev pub all_closed : ℕ → List ℕ
all_closed depth = replicate depth char.close_brace

-- the pieces between less-than signs
abbrev pub tag_pieces : List ℕ → List (List ℕ)
tag_pieces text = slice_split (λ b. b == char.less) text

-- the output for the text after the first less-than sign
abbrev pub tagged_rest : List ℕ → List ℕ
tagged_rest text = pieces_text 0 (tag_pieces text) ++ all_closed (open_after_pieces 0 (tag_pieces text))

-- the LaTeX source of a text with HTML tags
unfoldable pub tagged_source : List ℕ → List ℕ
tagged_source text =
    if nat_lt (position_or_len (λ b. b == char.less) text) (length text)
    then spelled_text (before_first (λ b. b == char.less) text) ++ tagged_rest (after_first (λ b. b == char.less) text)
    else spelled_text text
