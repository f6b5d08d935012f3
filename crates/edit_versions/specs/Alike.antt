-- Meaning: words of public contracts.
-- Units that are alike: they have the same content and the same comments, but may differ in their layout.
use Rattle.std.specs.Prelude.{◌==◌, ◌&&◌, ◌||◌, ◌-◌, ℕ, Bool, true, false, not, List, [], ◌∷◌, ◌++◌, Option, Some, None, bytes_eq, drop, filter, length, option_map, take}
use Rattle.std.specs.Char.{is_ascii_whitespace}
use Rattle.std.specs.List.{list_any, prefix_len, suffix_len}
use Rattle.std.specs.Cmp.Lexicographic.{pointwise}
use Rattle.std.specs.declared.ops.Range.{Range}
use Rattle.bib_text.specs.Characters as char
use Rattle.bib_text.specs.Places.{between, place}
use Rattle.bib_syntax.specs.Grammar.{is_word}
use Rattle.bib_syntax.specs.Reading.{EntryReading, FieldReading}
use Rattle.bib_queries.specs.EqualValues.{are_equal_pieces}
use Rattle.edit_units.specs.Units.{UnitReading}
use Rattle.edit_versions.specs.Versions.{VersionReading, text_of_unit, words_with_spaces}

-- whether a byte isn't ASCII white space or a comma, which are the layout of an entry outside of its values
abbrev pub is_no_layout : ℕ → Bool
is_no_layout b = not (is_ascii_whitespace b || b == char.comma)

-- the bytes from an offset to another one, outside of these fields
abbrev pub outside_fields : List ℕ → ℕ → List FieldReading → ℕ → List ℕ
outside_fields text at [] end = between (place text at) (place text end)
outside_fields text at (f ∷ fs) end = between (place text at) (place text f.name.start) ++ outside_fields text f.value.end fs end

-- the bytes of a unit outside of the type and the fields of its entry, without layout: the key, comments and braces
abbrev pub rest_of_entry : List ℕ → UnitReading → EntryReading → List ℕ
rest_of_entry text u e =
    filter is_no_layout (between (place text u.start) (place text e.kind.start) ++ outside_fields text e.kind.end e.fields u.end)

-- whether two fields have the same name, in any ASCII case, and equal values
abbrev pub is_alike_field : FieldReading → FieldReading → Bool
is_alike_field f g = is_word f.name.text g.name.text && are_equal_pieces f.value.pieces g.value.pieces

-- whether fields are alike, one by one, and their numbers are equal
abbrev pub are_alike_fields : List FieldReading → List FieldReading → Bool
are_alike_fields fields others = pointwise is_alike_field fields others

-- the entry of a unit whose only block is that entry
abbrev pub single_of : List (Range ℕ) → List EntryReading → Option EntryReading
single_of (block ∷ []) (e ∷ []) = Some e
single_of (block ∷ []) [] = None
single_of (block ∷ []) (e ∷ other ∷ es) = None
single_of [] es = None
single_of (block ∷ other ∷ blocks) es = None

abbrev pub single_entry : UnitReading → Option EntryReading
single_entry u = single_of u.blocks u.says.entries

-- a text without the ASCII white space at its start
abbrev pub without_start_space : List ℕ → List ℕ
without_start_space text = drop (prefix_len is_ascii_whitespace text) text

-- a text without the ASCII white space at its end
abbrev pub without_end_space : List ℕ → List ℕ
without_end_space text = take (length text - suffix_len is_ascii_whitespace text) text

-- the bytes of a unit before its entry, without white space at their start
abbrev pub before_entry : List ℕ → UnitReading → EntryReading → List ℕ
before_entry text u e = without_start_space (between (place text u.start) (place text e.start))

-- the bytes of a unit after its entry, from the closing brace on, without white space at their end
abbrev pub behind_entry : List ℕ → UnitReading → EntryReading → List ℕ
behind_entry text u e = without_end_space (between (place text e.end) (place text u.end))

-- whether two units with these entries are alike: the types are equal, in any ASCII case, the fields are alike, the text before and after
-- the entries is equal except for white space around it, and the rest is equal except for white space and commas
abbrev pub are_alike_entries : List ℕ → UnitReading → EntryReading → List ℕ → UnitReading → EntryReading → Bool
are_alike_entries text u e other v g =
    is_word e.kind.text g.kind.text && are_alike_fields e.fields g.fields
    && bytes_eq (before_entry text u e) (before_entry other v g) && bytes_eq (behind_entry text u e) (behind_entry other v g)
    && bytes_eq (rest_of_entry text u e) (rest_of_entry other v g)

-- whether two units are alike, given the entry of each, if it is its only block
abbrev pub are_alike_by : List ℕ → UnitReading → Option EntryReading → List ℕ → UnitReading → Option EntryReading → Bool
are_alike_by text u None other v found = false
are_alike_by text u (Some e) other v None = false
are_alike_by text u (Some e) other v (Some g) = are_alike_entries text u e other v g

-- whether a text has a percent sign, which begins a comment
abbrev pub has_comment_sign : List ℕ → Bool
has_comment_sign text = list_any (λ b. b == char.percent) text

-- whether two units of two texts have no percent sign, and are alike by their entries
abbrev pub are_alike_in_layout : List ℕ → UnitReading → List ℕ → UnitReading → Bool
are_alike_in_layout text u other v =
    not (has_comment_sign (text_of_unit text u)) && not (has_comment_sign (text_of_unit other v))
    && are_alike_by text u (single_entry u) other v (single_entry v)

-- whether two units of two texts have no blocks, and the same words
abbrev pub have_same_words : List ℕ → UnitReading → List ℕ → UnitReading → Bool
have_same_words text u other v =
    length u.blocks == 0 && length v.blocks == 0
    && bytes_eq (words_with_spaces (text_of_unit text u)) (words_with_spaces (text_of_unit other v))

-- whether two units of two texts are alike: they are equal, or they differ in layout only, and each is an entry without comments, or a text
-- without blocks
abbrev pub are_alike : List ℕ → UnitReading → List ℕ → UnitReading → Bool
are_alike text u other v =
    bytes_eq (text_of_unit text u) (text_of_unit other v) || are_alike_in_layout text u other v || have_same_words text u other v

-- whether two texts are equal, or both are absent
abbrev pub are_same_texts : Option (List ℕ) → Option (List ℕ) → Bool
are_same_texts None None = true
are_same_texts None (Some text) = false
are_same_texts (Some text) None = false
are_same_texts (Some text) (Some other) = bytes_eq text other

-- whether two units have the same bytes, or both are absent
abbrev pub is_same : VersionReading → Option UnitReading → VersionReading → Option UnitReading → Bool
is_same v u w x = are_same_texts (option_map (text_of_unit v.text) u) (option_map (text_of_unit w.text) x)

-- whether two units are alike, or both are absent
abbrev pub is_alike : VersionReading → Option UnitReading → VersionReading → Option UnitReading → Bool
is_alike v None w None = true
is_alike v None w (Some u) = false
is_alike v (Some u) w None = false
is_alike v (Some u) w (Some x) = are_alike v.text u w.text x
