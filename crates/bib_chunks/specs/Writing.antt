-- Machinery: words of private contracts.
-- Appending to a text, and the characters that are written without an escape.
use Rattle.std.specs.Prelude.{◌≡◌, ◌==◌, ◌||◌, not, if◌then◌else◌, true, false, Bool, ℕ, List, ◌++◌, string_bytes, encode_utf8_all}
use Rattle.std.specs.declared.string.String.{String}
use Rattle.bib_chunks.specs.Written.{is_grouping, is_reserved}
use Rattle.bib_text.specs.Characters as char

-- `new` is `old` with these characters appended
abbrev pub Writes : {A : Type 0} → String A → String A → List ℕ → Type 0
Writes old new characters = string_bytes new ≡ string_bytes old ++ encode_utf8_all characters

-- whether a character is written without an escape; the flag says whether the field is a verbatim one
unfoldable pub is_bare : Bool → ℕ → Bool
is_bare is_verbatim c =
    if is_grouping c then false
    else if is_verbatim then true
    else not (is_reserved c || c == char.tilde || c == char.circumflex)
