-- Meaning: words of public contracts.
-- The elements of a control file of Biber (.bcf), which is XML. An element is the text after its `<`, up to the next `<`.
use Rattle.std.specs.Prelude.{ℕ, ◌==◌, ◌||◌, Bool, false, if◌then◌else◌, List, [], ◌∷◌, ◌++◌, Option, Some, None, bytes_eq, codes, drop, eqb, length, nat_lt}
use Rattle.std.specs.List.{after_first, before_first, flat_map, position_or_len, slice_split, starts_with}
use Rattle.std.specs.Option.{option_and_then, option_map_or}
use Rattle.std.specs.Str.{trim}
use Rattle.bib_text.specs.Characters as char
use Rattle.bib_queries.specs.Lines.{text_after_prefix}
use Rattle.bib_queries.specs.Names.{comma_parts, name_if_filled}

-- a named escape of XML: the text after its ampersand, and its character
pub record Escape : Type 0 where
  pub name : List ℕ
  pub character : List ℕ

-- the five named escapes of XML; escapes with numbers, such as `&#38;`, aren't replaced
abbrev pub escapes : List Escape
escapes =
    record { name = codes "amp;"; character = codes "&" }
    ∷ (record { name = codes "lt;"; character = codes "<" }
    ∷ (record { name = codes "gt;"; character = codes ">" }
    ∷ (record { name = codes "quot;"; character = codes "\"" }
    ∷ (record { name = codes "apos;"; character = codes "'" } ∷ []))))

-- a text that follows an ampersand, with the escape at its start replaced by its character; without one, the ampersand and the text
abbrev pub unescaped_by : List Escape → List ℕ → List ℕ
unescaped_by [] text = codes "&" ++ text
unescaped_by (escape ∷ others) text =
    option_map_or (λ rest. escape.character ++ rest) (text_after_prefix escape.name text) (unescaped_by others text)

-- an ampersand and the text after it, with one of the five escapes at their start replaced by its character
abbrev pub unescaped_piece : List ℕ → List ℕ
unescaped_piece text = unescaped_by escapes text

-- an ampersand and the text after it, with the five escapes in both replaced
abbrev pub unescaped_rest : List ℕ → List ℕ
unescaped_rest text = flat_map unescaped_piece (slice_split (λ b. b == char.ampersand) text)

-- a text with each of the five escapes replaced by its character
abbrev pub unescaped_text : List ℕ → List ℕ
unescaped_text text =
    if nat_lt (position_or_len (λ b. b == char.ampersand) text) (length text)
    then before_first (λ b. b == char.ampersand) text
    ++ unescaped_rest (after_first (λ b. b == char.ampersand) text) else text

-- whether a tag is this name, or begins with this name and a space
abbrev pub is_tag_with : List ℕ → List ℕ → Bool
is_tag_with name tag = option_map_or (λ rest. length rest == 0 || starts_with eqb rest (codes " ")) (text_after_prefix name tag) false

-- whether the tag of an element ends
abbrev pub has_tag_end : List ℕ → Bool
has_tag_end piece = nat_lt (position_or_len (λ b. b == char.greater) piece) (length piece)

-- the tag of an element, without its brackets
abbrev pub tag : List ℕ → List ℕ
tag piece = before_first (λ b. b == char.greater) piece

-- the text of an element, after its tag
abbrev pub text_after_tag : List ℕ → List ℕ
text_after_tag piece = after_first (λ b. b == char.greater) piece

-- the tag of an element with this name, or `None` for another element or a tag without an end
abbrev pub tag_with_name : List ℕ → List ℕ → Option (List ℕ)
tag_with_name name piece = if has_tag_end piece then (if is_tag_with name (tag piece) then Some (tag piece) else None) else None

-- the text of an element with this name, or `None` for another element or a tag without an end
abbrev pub text_with_name : List ℕ → List ℕ → Option (List ℕ)
text_with_name name piece = if has_tag_end piece then (if is_tag_with name (tag piece) then Some (text_after_tag piece) else None) else None

-- the text after the first place at which a text contains `part`, or `None` without one
abbrev pub text_after_part : List ℕ → List ℕ → Option (List ℕ)
text_after_part part [] = text_after_prefix part []
text_after_part part (b ∷ rest) =
    if starts_with eqb (b ∷ rest) part then Some (drop (length part) (b ∷ rest)) else text_after_part part rest

-- the text before the first quote, or `None` without one
abbrev pub text_before_quote : List ℕ → Option (List ℕ)
text_before_quote text =
    if nat_lt (position_or_len (λ b. b == char.quote) text) (length text) then Some (before_first (λ b. b == char.quote) text)
    else None

-- the value of an attribute in a tag; `opening` is a space, the name of the attribute, an equals sign and a quote
abbrev pub attribute : List ℕ → List ℕ → Option (List ℕ)
attribute opening tag = option_and_then text_before_quote (text_after_part opening tag)

-- the tag of an element `bcf:citekey`, or `None` for another element or a tag without an end
abbrev pub citekey_tag : List ℕ → Option (List ℕ)
citekey_tag piece = tag_with_name (codes "bcf:citekey") piece

-- the text of an element `bcf:citekey`, or `None` for another element or a tag without an end
abbrev pub citekey_text : List ℕ → Option (List ℕ)
citekey_text piece = text_with_name (codes "bcf:citekey") piece

-- whether a tag defines a dynamic set, as `\defbibentryset` does
abbrev pub defines_set : List ℕ → Bool
defines_set tag = option_map_or (λ value. bytes_eq value (codes "set")) (attribute (codes " type=\"") tag) false

-- whether an element is a `bcf:citekey` that defines a dynamic set
abbrev pub is_set : List ℕ → Bool
is_set piece = option_map_or defines_set (citekey_tag piece) false

-- the value of the attribute `members` of an element `bcf:citekey`, or `None` if there is none: the comma-separated members of a set
abbrev pub member_list : List ℕ → Option (List ℕ)
member_list piece = option_and_then (attribute (codes " members=\"")) (citekey_tag piece)

-- the text with the keys of an element `bcf:citekey`: the members of a set, or the element's text
abbrev pub key_list : List ℕ → Option (List ℕ)
key_list piece = if is_set piece then member_list piece else citekey_text piece

-- the keys in a text: those of a comma-separated list if `has_commas` is true. Otherwise, the text without the white space around it is one
-- key, unless it is empty.
abbrev pub listed_keys : Bool → List ℕ → List (List ℕ)
listed_keys has_commas list = if has_commas then comma_parts list else name_if_filled (trim list)

-- the keys of an element: the members of a set, or the one key in its text
abbrev pub element_keys : List ℕ → List (List ℕ)
element_keys piece = option_map_or (λ list. listed_keys (is_set piece) (unescaped_text list)) (key_list piece) []

-- the name of the set that an element defines
abbrev pub set_name : List ℕ → List (List ℕ)
set_name piece = if is_set piece then option_map_or (λ text. trim (unescaped_text text) ∷ []) (citekey_text piece) [] else []

-- the names of the dynamic sets of a control file
abbrev pub set_names : List ℕ → List (List ℕ)
set_names text = flat_map set_name (slice_split (λ b. b == char.less) text)

-- the file name in an element `bcf:datasource`, without the white space around it; none for another element or a tag without an end
abbrev pub source_name : List ℕ → List (List ℕ)
source_name piece =
    option_map_or (λ text. trim (unescaped_text text) ∷ []) (text_with_name (codes "bcf:datasource") piece) []
