-- Meaning: words of public contracts.
-- The text of a LaTeX command, as the Rust crate `biblatex` has it, except for an accent on an accented letter. A text is a list of
-- its characters.
use Rattle.std.specs.Prelude.{ℕ, List, [], ◌∷◌, ◌++◌, Option, Some, None, codes, bytes_eq, if◌then◌else◌, ◌==◌}
use Prim.Native.String.{String}
use Rattle.bib_text.specs.Enums.{value_named}
use Rattle.unicode_normalization.specs.Forms.{nfc}

-- an accent: its name, and the combining character that it puts on a letter
abbrev pub accent : String → ℕ → List ℕ × ℕ
accent name mark = (codes name, mark)

-- the accents
unfoldable pub accents : List (List ℕ × ℕ)
accents =
    accent "`" 0x300 ∷ accent "´" 0x301 ∷ accent "'" 0x301 ∷ accent "^" 0x302 ∷ accent "~" 0x303 ∷ accent "=" 0x304 ∷
    accent "u" 0x306 ∷ accent "." 0x307 ∷ accent "\"" 0x308 ∷ accent "r" 0x30A ∷ accent "H" 0x30B ∷ accent "v" 0x30C ∷
    accent "d" 0x323 ∷ accent "c" 0x327 ∷ accent "k" 0x328 ∷ accent "b" 0x332 ∷ []

-- the stroke through a letter, which `o` puts on its argument
abbrev pub stroke : ℕ
stroke = 0x338

-- a symbol: its name and its text
abbrev pub symbol : String → String → List ℕ × List ℕ
symbol name text = (codes name, codes text)

-- the symbols, which replace their argument
unfoldable pub symbols : List (List ℕ × List ℕ)
symbols =
    symbol "LaTeX" "LaTeX" ∷ symbol "TeX" "TeX" ∷
    symbol "textendash" "–" ∷ symbol "textemdash" "—" ∷
    symbol "textquotesingle" "'" ∷ symbol "textquotedbl" "\"" ∷
    symbol "textquotedblleft" "“" ∷ symbol "textquotedblright" "”" ∷
    symbol "textquoteleft" "‘" ∷ symbol "textquoteright" "’" ∷
    symbol "textquotestraightdblbase" "„" ∷ symbol "quotedblbase" "„" ∷
    symbol "textquotestraightbase" "‚" ∷ symbol "quotesinglbase" "‚" ∷
    symbol "textasciicircum" "^" ∷ symbol "textasciigrave" "`" ∷ symbol "textasciitilde" "~" ∷
    symbol "textasteriskcentered" "⁎" ∷
    symbol "textbackslash" "\\" ∷ symbol "textbar" "|" ∷ symbol "textbraceleft" "{" ∷ symbol "textbraceright" "}" ∷
    symbol "textbullet" "•" ∷ symbol "textdagger" "†" ∷ symbol "textdaggerdbl" "‡" ∷ symbol "ddag" "‡" ∷
    symbol "textdollar" "$" ∷ symbol "textless" "<" ∷ symbol "textgreater" ">" ∷ symbol "textunderscore" "_" ∷
    symbol "textexclamdown" "¡" ∷ symbol "textquestiondown" "¿" ∷
    symbol "textordfeminine" "ª" ∷ symbol "textordmasculine" "º" ∷ symbol "textperiodcentered" "·" ∷
    symbol "textregistered" "®" ∷ symbol "texttrademark" "™" ∷
    symbol "textsection" "§" ∷ symbol "S" "§" ∷ symbol "textparagraph" "¶" ∷ symbol "P" "¶" ∷
    symbol "textvisiblespace" "␣" ∷
    symbol "guillemotleft" "«" ∷ symbol "guillemotright" "»" ∷ symbol "guilsinglleft" "‹" ∷ symbol "guilsinglright" "›" ∷
    symbol "aa" "å" ∷ symbol "AA" "Å" ∷ symbol "ae" "æ" ∷ symbol "AE" "Æ" ∷ symbol "oe" "œ" ∷ symbol "OE" "Œ" ∷
    symbol "dh" "ð" ∷ symbol "DH" "Ð" ∷ symbol "dj" "đ" ∷ symbol "DJ" "Đ" ∷ symbol "ng" "ŋ" ∷ symbol "NG" "Ŋ" ∷
    symbol "l" "ł" ∷ symbol "L" "Ł" ∷ symbol "i" "ı" ∷ symbol "O" "Ø" ∷
    symbol "ss" "ß" ∷ symbol "SS" "ẞ" ∷ symbol "th" "þ" ∷ symbol "TH" "Þ" ∷
    symbol "dots" "…" ∷ symbol "textellipsis" "…" ∷ symbol "pounds" "£" ∷
    symbol "-" "" ∷ []

-- the letter that a mark is put on: a dotless i or j becomes the letter with a dot
abbrev pub letter : ℕ → ℕ
letter c = if c == 0x131 then 0x69 else if c == 0x237 then 0x6A else c

-- the characters for a mark without a letter: the circumflex and the tilde are ASCII characters, any other is the mark
abbrev pub bare : ℕ → List ℕ
bare mark = if mark == 0x302 then codes "^" else if mark == 0x303 then codes "~" else mark ∷ []

-- a text whose last character is composed with the mark (NFC); for an empty text, the mark without a letter
abbrev pub with_mark : ℕ → List ℕ → List ℕ
with_mark mark [] = bare mark
with_mark mark (c ∷ []) = nfc (letter c ∷ mark ∷ [])
with_mark mark (c ∷ d ∷ cs) = c ∷ with_mark mark (d ∷ cs)

-- the text of an accent: without an argument the combining mark, otherwise the argument with the mark
abbrev pub accent_text : ℕ → Option (List ℕ) → List ℕ
accent_text mark None = mark ∷ []
accent_text mark (Some argument) = with_mark mark argument

-- the text of a command that is neither an accent nor a symbol. `o` and `copyright` depend on whether there is an
-- argument. An unknown command is kept, with a space or its argument in braces after it. (`bytes_eq` compares two lists of
-- numbers, here code points.)
abbrev pub other : List ℕ → Option (List ℕ) → List ℕ
other name None =
    if bytes_eq name (codes "o") then codes "ø"
    else if bytes_eq name (codes "copyright") then codes "©"
    else codes "\\" ++ name ++ codes " "
other name (Some argument) =
    if bytes_eq name (codes "o") then with_mark stroke argument
    else if bytes_eq name (codes "copyright") then codes "©" ++ argument
    else codes "\\" ++ name ++ codes "{" ++ argument ++ codes "}"

-- the text of a command. The first argument is the mark if the name is that of an accent. The second is the text if the name is
-- that of a symbol.
abbrev pub text_from_tables : Option ℕ → Option (List ℕ) → List ℕ → Option (List ℕ) → List ℕ
text_from_tables (Some mark) text name argument = accent_text mark argument
text_from_tables None (Some text) name argument = text
text_from_tables None None name argument = other name argument

-- the text of a command with this name; `argument` is the text of its argument if it has one
unfoldable pub command_text : List ℕ → Option (List ℕ) → List ℕ
command_text name argument = text_from_tables (value_named accents name) (value_named symbols name) name argument
