-- Meaning: words of public contracts.
-- Encodings, their names, and their byte order marks.
use Rattle.std.specs.Prelude.{ℕ, ◌||◌, Bool, List, [], ◌∷◌, Option, None, Some, codes, drop, if◌then◌else◌, length, nat_eq}
use Rattle.std.specs.List.{starts_with}
use Rattle.std.specs.Str.{str_eq_ignore_ascii_case}
use Rattle.bib_source.specs.Encoding.{byte_order_mark}
use Rattle.bib_recode.specs.declared.encoding.Encoding.{Encoding}
use Rattle.bib_recode.specs.declared.encoding.Encoding.TheVariants.{Utf8, Utf16LittleEndian, Utf16BigEndian, Windows1252, Latin1}

-- whether a name is one of two words, in any ASCII case
abbrev pub is_either : List ℕ → List ℕ → List ℕ → Bool
is_either name first second = str_eq_ignore_ascii_case name first || str_eq_ignore_ascii_case name second

-- the encoding with this name, in any ASCII case, or `None`
abbrev pub encoding_named : List ℕ → Option Encoding
encoding_named name =
    if is_either name (codes "utf-8") (codes "utf8") then Some Utf8
    else if is_either name (codes "utf-16") (codes "utf-16le") then Some Utf16LittleEndian
    else if str_eq_ignore_ascii_case name (codes "utf-16be") then Some Utf16BigEndian
    else if is_either name (codes "windows-1252") (codes "cp1252") then Some Windows1252
    else if is_either name (codes "latin1") (codes "iso-8859-1") then Some Latin1
    else None

-- the byte order mark U+FEFF in UTF-16 with the low byte first
abbrev pub little_endian_mark : List ℕ
little_endian_mark = 0xFF ∷ 0xFE ∷ []

-- the byte order mark U+FEFF in UTF-16 with the high byte first
abbrev pub big_endian_mark : List ℕ
big_endian_mark = 0xFE ∷ 0xFF ∷ []

-- the byte order mark in an encoding, or no bytes if it has none
abbrev pub encoding_mark : Encoding → List ℕ
encoding_mark Utf8 = byte_order_mark
encoding_mark Utf16LittleEndian = little_endian_mark
encoding_mark Utf16BigEndian = big_endian_mark
encoding_mark Windows1252 = []
encoding_mark Latin1 = []

-- the length in bytes of the byte order mark of an encoding at the start of a file; 0 if the file doesn't begin with this mark
abbrev pub length_of_mark : Encoding → List ℕ → ℕ
length_of_mark encoding bytes = if starts_with nat_eq bytes (encoding_mark encoding) then length (encoding_mark encoding) else 0

-- the bytes of a file after the byte order mark of an encoding; all bytes if the file doesn't begin with this mark
abbrev pub after_mark : Encoding → List ℕ → List ℕ
after_mark encoding bytes = drop (length_of_mark encoding bytes) bytes

-- the encoding whose byte order mark is at the start of a file, or `None`
abbrev pub marked_as : List ℕ → Option Encoding
marked_as bytes =
    if starts_with nat_eq bytes byte_order_mark then Some Utf8
    else if starts_with nat_eq bytes little_endian_mark then Some Utf16LittleEndian
    else if starts_with nat_eq bytes big_endian_mark then Some Utf16BigEndian
    else None
