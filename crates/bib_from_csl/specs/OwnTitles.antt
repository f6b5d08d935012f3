-- Meaning: words of public contracts.
-- Titles whose words keep their case. Many styles of BibTeX and BibLaTeX print titles in lowercase letters, except for text in braces. CSL
-- recommends titles in sentence case, in which a capital inside of the title belongs to its word. pandoc protects the same words.
use Rattle.std.specs.Prelude.{ℕ, Bool, true, false, ◌==◌, ◌||◌, if◌then◌else◌, List, [], ◌∷◌, ◌++◌, bytes_eq, codes}
use Rattle.std.specs.List.{flat_map, list_any, slice_split}
use Rattle.std.specs.Str.{chars}
use Rattle.unicode.specs.Binary.{is_uppercase}
use Rattle.bib_text.specs.Characters as char
use Rattle.bib_dates.specs.Dates.{holds as has_byte}

-- whether a variable is the title of the work itself, whole or short
abbrev pub is_own_title : List ℕ → Bool
is_own_title name = bytes_eq name (codes "title") || bytes_eq name (codes "title-short")

-- whether a word contains an uppercase letter
abbrev pub has_capital : List ℕ → Bool
has_capital word = list_any is_uppercase (chars word)

-- a word, in a tag that keeps its case if it contains an uppercase letter
abbrev pub kept_word : List ℕ → List ℕ
kept_word word = if has_capital word then codes "<span class=\"nocase\">" ++ (word ++ codes "</span>") else word

-- a word of a title: the first one as it is, any other as its `kept_word` after a space
abbrev pub title_word : Bool → List ℕ → List ℕ
title_word true word = word
title_word false word = codes " " ++ kept_word word

-- the title of these words
abbrev pub title_of_words : List (List ℕ) → List ℕ
title_of_words [] = []
title_of_words (first ∷ words) = first ++ flat_map (title_word false) words

-- a title in which each word with a capital, except the first, keeps its case; spaces separate words
abbrev pub kept_title : List ℕ → List ℕ
kept_title text = title_of_words (slice_split (λ b. b == char.space) text)

-- the title of an item in English; one with a less-than sign, which may have tags, stays as it is
abbrev pub protected_title : List ℕ → List ℕ
protected_title text = if has_byte char.less text then text else kept_title text
