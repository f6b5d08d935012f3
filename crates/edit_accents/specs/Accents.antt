-- Meaning: words of public contracts.
-- LaTeX commands for accents and letters, and the characters that they become. A text is a list of its characters. The marks of accents
-- and the texts of letters are those of `bib_contents`.
use Rattle.std.specs.Prelude.{◌==◌, ◌&&◌, ◌||◌, not, ℕ, suc, ◌-◌, Bool, true, false, if◌then◌else◌, nat_lt, List, [], ◌∷◌, ◌++◌, codes, drop, length, Option, Some, None, bytes_eq, is_some, ◌+◌}
use Rattle.std.specs.Char.{is_whitespace, is_ascii_alphabetic}
use Rattle.std.specs.List.{list_any, starts_with}
use lib.Dec.{eqb}
use Rattle.bib_text.specs.Characters as char
use Rattle.bib_text.specs.Enums.{value_named}
use Rattle.bib_contents.specs.Commands.{accents, command_text, letter}
use Rattle.edit_accents.specs.declared.decoding.Reduction.{Reduction}
use Rattle.edit_accents.specs.declared.signs.Sign.{Sign}
use Rattle.edit_accents.specs.declared.signs.Sign.TheVariants.{Command, Opening, Closing, Plain, Composed, Grouped}
use Rattle.edit_accents.specs.declared.signs.Stretch.{Stretch}
use Rattle.edit_accents.specs.declared.signs.Stretch.TheVariants.{Text, Accent, Math, Address}
use Rattle.edit_accents.specs.declared.writing.Spot.{Spot}
use Rattle.edit_accents.specs.declared.writing.Spot.TheVariants.{Free, Begun, Word, Waits, Closed}
use Rattle.unicode_normalization.specs.Forms.{nfc}

-- ---- the signs of a text

-- the words in the names of commands whose first argument in braces is an address or a key, such as `\nolinkurl`, `\href`, `\parencite`
-- and `\autoref`
abbrev pub address_words : List (List ℕ)
address_words =
    codes "url" ∷ codes "path" ∷ codes "label" ∷ codes "ref" ∷ codes "Ref" ∷ codes "cite" ∷ codes "Cite" ∷ []

-- whether a text begins with one of these words
abbrev pub begins_address_word : List ℕ → Bool
begins_address_word text = list_any (starts_with eqb text) address_words

-- whether the ASCII letters at the start of the text after a backslash, the name of a command, contain one of these words
abbrev pub begins_address : List ℕ → Bool
begins_address [] = false
begins_address (c ∷ cs) = is_ascii_alphabetic c && (begins_address_word (c ∷ cs) || begins_address cs)

-- whether a character is the name of an accent
abbrev pub is_accent_sign : ℕ → Bool
is_accent_sign c = is_some (value_named accents (c ∷ []))

-- whether a text begins with an ASCII letter
abbrev pub begins_letter : List ℕ → Bool
begins_letter [] = false
begins_letter (c ∷ cs) = is_ascii_alphabetic c

-- whether the text after a backslash begins with the name of an accent, as TeX reads it
abbrev pub begins_accent : List ℕ → Bool
begins_accent [] = false
begins_accent (c ∷ cs) = is_accent_sign c && not (is_ascii_alphabetic c && begins_letter cs)

-- whether a backslash begins a command in a stretch of a text: neither in math, nor in an address or a key
abbrev pub reads_commands : Stretch → Bool
reads_commands Text = true
reads_commands Accent = true
reads_commands Math = false
reads_commands (Address depth) = false

-- the sign of a character that no backslash escapes
abbrev pub sign_of : Stretch → ℕ → Sign
sign_of stretch c =
    if c == char.open_brace then Opening
    else if c == char.close_brace then Closing
    else if c == char.backslash && reads_commands stretch then Command
    else Plain c

-- the stretch after a closing brace in an address or a key with `depth` open braces
abbrev pub address_closed : ℕ → Stretch
address_closed depth = if nat_lt 1 depth then Address (depth - 1) else Text

-- the stretch after a character of text that no backslash escapes, which the rest of the text follows
abbrev pub stretch_after_text : ℕ → List ℕ → Stretch
stretch_after_text c rest =
    if c == char.dollar then Math
    else if c == char.backslash && begins_address rest then Address 0
    else if c == char.backslash && begins_accent rest then Accent
    else Text

-- the stretch after a character of the name or the arguments of a command with an address or a key, with `depth` open braces. An opening
-- bracket before the braces begins an optional argument and counts as a brace. If one brace or bracket is open, a closing bracket closes
-- it, and the arguments go on.
abbrev pub stretch_after_address : ℕ → ℕ → Stretch
stretch_after_address depth c =
    if c == char.open_brace then Address (suc depth)
    else if c == char.close_brace then address_closed depth
    else if c == char.open_bracket && depth == 0 then Address 1
    else if c == char.close_bracket && depth == 1 then Address 0
    else Address depth

-- the stretch after a character that no backslash escapes, which the rest of the text follows. A dollar sign begins and ends math. The
-- argument of an accent may come after white space and braces. An address or a key begins with the name of its command, and ends with its
-- first argument in braces.
abbrev pub stretch_after : Stretch → ℕ → List ℕ → Stretch
stretch_after Text c rest = stretch_after_text c rest
stretch_after Accent c rest = if c == char.open_brace || is_whitespace c then Accent else stretch_after_text c rest
stretch_after Math c rest = if c == char.dollar then Text else Math
stretch_after (Address depth) c rest = stretch_after_address depth c

-- the signs of a text that begins in a stretch; the flag says whether a backslash escapes its first character
abbrev pub signs : Stretch → Bool → List ℕ → List Sign
signs stretch is_escaped [] = []
signs stretch true (c ∷ cs) = Plain c ∷ signs stretch false cs
signs stretch false (c ∷ cs) = sign_of stretch c ∷ signs (stretch_after stretch c cs) (c == char.backslash) cs

-- ---- a command

-- whether signs begin with one that passes a test
abbrev pub first_sign_passes : (Sign → Bool) → List Sign → Bool
first_sign_passes test [] = false
first_sign_passes test (s ∷ ss) = test s

-- whether a sign is an opening brace
abbrev pub is_opening : Sign → Bool
is_opening Opening = true
is_opening s = false

-- whether a sign is a closing brace
abbrev pub is_closing : Sign → Bool
is_closing Closing = true
is_closing s = false

-- whether a sign begins an argument in braces
abbrev pub is_group : Sign → Bool
is_group Opening = true
is_group (Grouped c) = true
is_group s = false

-- a character, if it passes a test
abbrev pub character_if : Bool → ℕ → Option ℕ
character_if passes c = if passes then Some c else None

-- the ASCII letter that a sign is, or `None` if it is none
abbrev pub letter_of : Sign → Option ℕ
letter_of (Plain c) = character_if (is_ascii_alphabetic c) c
letter_of s = None

-- a character before others, which are dropped if there is none
abbrev pub before_others : Option ℕ → List ℕ → List ℕ
before_others None cs = []
before_others (Some c) cs = c ∷ cs

-- the ASCII letters at the start of signs
abbrev pub leading_letters : List Sign → List ℕ
leading_letters [] = []
leading_letters (s ∷ ss) = before_others (letter_of s) (leading_letters ss)

-- whether a sign is white space
abbrev pub is_white : Sign → Bool
is_white (Plain c) = is_whitespace c
is_white s = false

-- the number of signs at the start that are white space
abbrev pub white_count : List Sign → ℕ
white_count [] = 0
white_count (s ∷ ss) = if is_white s then suc (white_count ss) else 0

-- the name of a command before these signs, as TeX reads it: ASCII letters, or one other character
abbrev pub name_in_signs : List Sign → List ℕ
name_in_signs [] = []
name_in_signs (Plain c ∷ rest) = if is_ascii_alphabetic c then c ∷ leading_letters rest else c ∷ []
name_in_signs (s ∷ rest) = []

-- the names of the commands for letters that become characters; those of other letters, such as `\j` and `\SS`, stay
abbrev pub letter_names : List (List ℕ)
letter_names =
    codes "aa" ∷ codes "AA" ∷ codes "ae" ∷ codes "AE" ∷ codes "oe" ∷ codes "OE" ∷ codes "o" ∷ codes "O" ∷ codes "l" ∷ codes "L"
    ∷ codes "ss" ∷ codes "i" ∷ codes "dh" ∷ codes "DH" ∷ codes "dj" ∷ codes "DJ" ∷ codes "ng" ∷ codes "NG" ∷ codes "th"
    ∷ codes "TH" ∷ []

-- the only character of a text
abbrev pub only_character : List ℕ → Option ℕ
only_character (c ∷ []) = Some c
only_character text = None

-- the character of a command for a letter
abbrev pub named_letter : List ℕ → Option ℕ
named_letter name = if list_any (bytes_eq name) letter_names then only_character (command_text name None) else None

-- a character beyond ASCII
abbrev pub is_beyond_ascii : ℕ → Bool
is_beyond_ascii c = not (nat_lt c 128)

-- whether an accent may be put on a character
abbrev pub takes_accent : ℕ → Bool
takes_accent c = is_ascii_alphabetic c || is_beyond_ascii c

-- a character, if there is one and it is beyond ASCII
abbrev pub only_beyond_ascii : Option ℕ → Option ℕ
only_beyond_ascii None = None
only_beyond_ascii (Some c) = character_if (is_beyond_ascii c) c

-- a character and a mark as one character beyond ASCII, if NFC has one. A mark on a dotless i or j is put on i or j
abbrev pub composed : ℕ → ℕ → Option ℕ
composed mark c = only_beyond_ascii (only_character (nfc (letter c ∷ mark ∷ [])))

-- a character, if there is one, and a mark as one character, as in `composed`
abbrev pub composed_with : ℕ → Option ℕ → Option ℕ
composed_with mark None = None
composed_with mark (Some c) = composed mark c

-- ---- the characters that commands become

-- the reduction of a sign that stays. A reduction of a sign before other signs is the new sign, and the number of the following signs that
-- it replaces too
abbrev pub stays : Sign → Reduction
stays s = record { sign = s; taken = 0 }

-- the reduction of a sign that becomes a character and takes a number of signs with it; without a character it stays
abbrev pub reduced_to : Option ℕ → ℕ → Sign → Reduction
reduced_to None count s = stays s
reduced_to (Some c) count s = record { sign = Composed c; taken = count }

-- the only character of an argument in braces, after its opening brace, if an accent may be put on it
abbrev pub letter_in_braces : List Sign → Option ℕ
letter_in_braces (Plain c ∷ rest) = character_if (takes_accent c && first_sign_passes is_closing rest) c
letter_in_braces ss = None

-- the character on which an accent before these signs is put: the next one or the only one in braces, if it may have an accent
abbrev pub accented_letter : List Sign → Option ℕ
accented_letter [] = None
accented_letter (Plain c ∷ rest) = character_if (takes_accent c) c
accented_letter (Composed c ∷ rest) = Some c
accented_letter (Grouped c ∷ rest) = Some c
accented_letter (Opening ∷ rest) = letter_in_braces rest
accented_letter (Closing ∷ rest) = None
accented_letter (Command ∷ rest) = None

-- the number of signs of the character that gets an accent before these signs: three if an opening brace is before it, or else one
abbrev pub accented_count : List Sign → ℕ
accented_count ss = if first_sign_passes is_opening ss then 3 else 1

-- an accent before the signs after its name, whose length is `size`: it is put on a character, before which white space may come
abbrev pub accent_reduced : ℕ → ℕ → List Sign → Reduction
accent_reduced mark size rest =
    let white : ℕ = white_count rest in
    let argument : List Sign = drop white rest in
    reduced_to (composed_with mark (accented_letter argument)) (size + white + accented_count argument) Command

-- whether signs begin with an empty pair of braces
abbrev pub begins_empty : List Sign → Bool
begins_empty ss = first_sign_passes is_opening ss && first_sign_passes is_closing (drop 1 ss)

-- the number of signs that end the name of a letter: an empty pair of braces, or white space
abbrev pub end_count : List Sign → ℕ
end_count rest = if begins_empty rest then 2 else white_count rest

-- a command for a letter before the signs after its name, whose length is `size`: before an argument that isn't empty it stays
abbrev pub letter_reduced : Option ℕ → ℕ → List Sign → Reduction
letter_reduced found size rest =
    if first_sign_passes is_group rest && not (begins_empty rest) then stays Command else reduced_to found (size + end_count rest) Command

-- a command with a name before signs, given the mark if its name is that of an accent
abbrev pub command_reduced : Option ℕ → List ℕ → List Sign → Reduction
command_reduced None name following = letter_reduced (named_letter name) (length name) (drop (length name) following)
command_reduced (Some mark) name following = accent_reduced mark (length name) (drop (length name) following)

-- an opening brace before signs: with a character that a command became and a closing brace it is one sign
abbrev pub group_reduced : List Sign → Reduction
group_reduced (Composed c ∷ Closing ∷ rest) = record { sign = Grouped c; taken = 2 }
group_reduced ss = stays Opening

-- the reduction of a sign before other signs
abbrev pub reduced : Sign → List Sign → Reduction
reduced Command following = command_reduced (value_named accents (name_in_signs following)) (name_in_signs following) following
reduced Opening following = group_reduced following
reduced s following = stays s

-- the signs after a reduction of the first of them
abbrev pub with_reduction : Reduction → List Sign → List Sign
with_reduction r following = r.sign ∷ drop r.taken following

-- signs with each command that becomes a character replaced by it, from the last to the first. So an accent is put on a character that a
-- command became
abbrev pub decoded : List Sign → List Sign
decoded [] = []
decoded (s ∷ ss) = with_reduction (reduced s (decoded ss)) (decoded ss)

-- ---- the text of signs

-- the spot after a character for which it is neither `Word` nor `Waits`: an argument may come after a star and after an optional argument
abbrev pub spot_beside_names : ℕ → Spot
spot_beside_names c = if list_any (λ d. c == d) (codes "*]") then Closed else Free

-- the spot after a character that follows the backslash of a command, if the flag says so, or a letter of its name
abbrev pub spot_in_name : Bool → ℕ → Spot
spot_in_name is_first c =
    if is_ascii_alphabetic c then Word
    else if (if is_first then is_accent_sign c else is_whitespace c) then Waits
    else spot_beside_names c

-- the spot after a plain character
abbrev pub spot_after_plain : Spot → ℕ → Spot
spot_after_plain Free c = spot_beside_names c
spot_after_plain Begun c = spot_in_name true c
spot_after_plain Word c = spot_in_name false c
spot_after_plain Waits c = if is_whitespace c then Waits else spot_beside_names c
spot_after_plain Closed c = spot_beside_names c

-- whether braces around a character have no meaning at a spot: no command before them takes an argument
abbrev pub is_free : Spot → Bool
is_free Free = true
is_free s = false

-- whether a command before a spot may take the next character as its argument
abbrev pub awaits_character : Spot → Bool
awaits_character Word = true
awaits_character Waits = true
awaits_character s = false

-- the spot after a sign
abbrev pub spot_after : Spot → Sign → Spot
spot_after spot Command = Begun
spot_after spot Opening = Free
spot_after spot Closing = Closed
spot_after spot (Plain c) = spot_after_plain spot c
spot_after spot (Composed c) = if awaits_character spot then Closed else Free
spot_after spot (Grouped c) = if is_free spot then Free else Closed

-- the text of a composed character: in braces if a command may take it as its argument. The reasons are that pdfLaTeX takes the first
-- byte of a character as an argument, and that the name of a command must end before a letter
abbrev pub composed_text : Spot → ℕ → List ℕ
composed_text spot c = if awaits_character spot then char.open_brace ∷ c ∷ char.close_brace ∷ [] else c ∷ []

-- the text of a sign. The braces of a grouped character are kept if a command may take them as its argument.
abbrev pub written_sign : Spot → Sign → List ℕ
written_sign spot Command = char.backslash ∷ []
written_sign spot Opening = char.open_brace ∷ []
written_sign spot Closing = char.close_brace ∷ []
written_sign spot (Plain c) = c ∷ []
written_sign spot (Composed c) = composed_text spot c
written_sign spot (Grouped c) = if is_free spot then c ∷ [] else char.open_brace ∷ c ∷ char.close_brace ∷ []

-- the text of signs
abbrev pub written : Spot → List Sign → List ℕ
written spot [] = []
written spot (s ∷ ss) = written_sign spot s ++ written (spot_after spot s) ss

-- a text with its commands for accents and letters as characters
abbrev pub with_characters : List ℕ → List ℕ
with_characters text = written Free (decoded (signs Text false text))
