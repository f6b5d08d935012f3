-- Meaning: words of public contracts.
-- The name of a file as a URI.
use Rattle.std.specs.Prelude.{ℕ, Bool, true, ◌==◌, ◌||◌, ◌/◌, ◌%◌, List, [], ◌∷◌, if◌then◌else◌}
use Rattle.std.specs.Char.{is_ascii_alphanumeric}
use Rattle.std.specs.Fmt.{digit_glyph}
use Rattle.std.specs.List.{flat_map}
use Rattle.bib_text.specs.Characters as char

-- whether a byte is kept in the path of a URI: an unreserved character (RFC 3986, section 2.3) or a slash
abbrev pub is_path_byte : ℕ → Bool
is_path_byte byte =
    is_ascii_alphanumeric byte || byte == char.hyphen || byte == char.point || byte == char.underscore || byte == char.tilde
    || byte == char.slash

-- the percent-encoding of a byte: a percent sign and two hexadecimal digits (RFC 3986, section 2.1)
abbrev pub percent_encoded : ℕ → List ℕ
percent_encoded byte = char.percent ∷ digit_glyph true (byte / 16) ∷ digit_glyph true (byte % 16) ∷ []

-- a byte in the path of a URI
abbrev pub path_byte : ℕ → List ℕ
path_byte byte = if is_path_byte byte then byte ∷ [] else percent_encoded byte

-- the name of a file as a relative URI
abbrev pub uri : List ℕ → List ℕ
uri name = flat_map path_byte name
