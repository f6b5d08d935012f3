-- Machinery: words of private contracts.
-- The words of a text, one after another.
use Rattle.std.specs.Prelude.{ℕ, Bool, not, ◌&&◌, ◌==◌, List, [], ◌++◌, chars, codes, filter, length, if◌then◌else◌}
use Rattle.std.specs.List.{take_while}
use Rattle.bib_findings.specs.Identities.{folded_words, is_between_people, is_brace, spaced_words}

-- the characters of a text without braces
abbrev pub without_braces : List ℕ → List ℕ
without_braces text = filter (λ c. not (is_brace c)) (chars text)

-- a word followed by a space, or nothing if the word is empty
abbrev pub spaced_word : List ℕ → List ℕ
spaced_word word = if length word == 0 then [] else word ++ codes " "

-- whether the words end before this one: only if the first person is wanted and the word separates people
abbrev pub ends_before : Bool → List ℕ → Bool
ends_before is_first word = is_first && is_between_people word

-- the words of these characters, each followed by a space: all of them, or only those of the first person
abbrev pub words_text : Bool → List ℕ → List ℕ
words_text is_first characters = spaced_words (take_while (λ word. not (ends_before is_first word)) (folded_words characters))
