-- Meaning: words of public contracts.
-- Words of a text, and their case in a key.
use Rattle.std.specs.Prelude.{ℕ, ◌==◌, ◌&&◌, Bool, not, List, ◌++◌, map, take, drop, length, codes}
use Rattle.std.specs.Char.{to_ascii_lowercase, to_ascii_uppercase}
use Rattle.std.specs.List.{filter, list_any, slice_split}
use Rattle.std.specs.Str.{str_eq_ignore_ascii_case}
use Rattle.bib_text.specs.Characters as char
use Rattle.bib_text.specs.Enums.{words}
use Rattle.bib_keys.specs.Letters.{key_letters}
use Rattle.bib_keys.specs.declared.pattern.Case.{Case}
use Rattle.bib_keys.specs.declared.pattern.Case.TheVariants.{Lower, Capital, Upper}

-- a word with its ASCII letters in a case; `Capital` changes only its first character
abbrev pub in_case : Case → List ℕ → List ℕ
in_case Lower word = map to_ascii_lowercase word
in_case Capital word = map to_ascii_uppercase (take 1 word) ++ drop 1 word
in_case Upper word = map to_ascii_uppercase word

-- the function words, which aren't significant in a title: articles, prepositions and conjunctions of English, German, French, Spanish
-- and Italian
abbrev pub function_words : List (List ℕ)
function_words =
    words (codes "a an and as at au aux but by das de dei del della dem den der des di die du ein eine einem einen einer eines el en et")
    ++ words (codes "for from gli il im in into la las le les lo los nor of on or oder the to un una und une vom von with y zu zum zur")

-- whether a word is a function word, in any ASCII case
abbrev pub is_function_word : List ℕ → Bool
is_function_word word = list_any (λ known. str_eq_ignore_ascii_case known word) function_words

-- whether a word is significant: it is neither empty nor a function word
abbrev pub is_significant : List ℕ → Bool
is_significant word = not (length word == 0) && not (is_function_word word)

-- the significant words of a title, as plain text
abbrev pub significant_words : List ℕ → List (List ℕ)
significant_words title = filter is_significant (slice_split (λ b. b == char.space) (key_letters title))
