-- Meaning: words of public contracts.
-- English titles in sentence case, as CSL recommends: an ordinary word loses the capital at its start, unless it begins a sentence or
-- follows a full stop. A text is a list of its bytes. The rules are those of pandoc's reader; docs/DECISIONS.md lists the exceptions.
use Rattle.std.specs.Prelude.{ℕ, ◌+◌, ◌-◌, Bool, true, false, not, nat_lt, ◌==◌, ◌&&◌, ◌||◌, if◌then◌else◌, List, [], ◌∷◌, ◌++◌, codes, eqb, encode_utf8, encode_utf8_all}
use Rattle.std.specs.Char.{is_whitespace}
use Rattle.std.specs.Char.Unicode.Alphabetic.{is_alphabetic}
use Rattle.std.specs.Char.Unicode.Lowercase.{is_lowercase}
use Rattle.std.specs.Char.Unicode.Numeric.{is_numeric}
use Rattle.std.specs.Char.Unicode.ToLowercase.{to_lowercase}
use Rattle.std.specs.Char.Unicode.ToUppercase.{to_uppercase}
use Rattle.std.specs.Char.Unicode.Uppercase.{is_uppercase}
use Rattle.std.specs.List.{list_any, starts_with}
use Rattle.std.specs.Str.{chars}
use Rattle.bib_text.specs.Characters as char
use Rattle.bib_text.specs.Runs.{leading_run, rest_after}
use Rattle.bib_csl.specs.declared.sentence.Context.{Context}
use Rattle.bib_csl.specs.declared.sentence.Sentence.{Sentence}
use Rattle.bib_csl.specs.declared.sentence.Sentence.TheVariants.{Begins, FollowsStop, AfterMark, AfterStop, Inside}

-- ---- words

abbrev pub exclamation_mark : ℕ
exclamation_mark = 33

abbrev pub upper_a : ℕ
upper_a = 65

-- the right single quotation mark, which is also an apostrophe
abbrev pub right_quote : ℕ
right_quote = 8217

-- whether a character is a letter or a digit, with which a word begins
unfoldable pub is_letter_or_digit : ℕ → Bool
is_letter_or_digit c = is_alphabetic c || is_numeric c

-- whether a character is a letter, a digit or white space
unfoldable pub is_plain_in_title : ℕ → Bool
is_plain_in_title c = is_letter_or_digit c || is_whitespace c

-- whether a character continues a word: a letter, a digit, a full stop or an apostrophe. So `Ph.D.` and `O'Neill` are words.
unfoldable pub continues_word : ℕ → Bool
continues_word c = is_letter_or_digit c || (c == char.point || (c == char.apostrophe || c == right_quote))

-- the start of a text, which continues the word before it
unfoldable pub word_in : List ℕ → List ℕ
word_in text = encode_utf8_all (leading_run continues_word (chars text))

-- the text after that
unfoldable pub text_after_word : List ℕ → List ℕ
text_after_word text = encode_utf8_all (rest_after continues_word (chars text))

-- whether the first character passes a test
abbrev pub begins_by : (ℕ → Bool) → List ℕ → Bool
begins_by test [] = false
begins_by test (c ∷ cs) = test c

-- whether a text contains a capital or a digit
abbrev pub has_capital_or_digit : List ℕ → Bool
has_capital_or_digit text = list_any (λ c. is_uppercase c || is_numeric c) (chars text)

-- whether the rest of a word begins with a lowercase letter and contains neither a capital nor a digit
unfoldable pub is_small_rest : List ℕ → Bool
is_small_rest rest = begins_by is_lowercase (chars rest) && not (has_capital_or_digit rest)

-- whether the word of one letter before this text is taken for the article: `A` or `a` before white space. Other letters, as in
-- `vitamin C`, are names.
unfoldable pub is_indefinite_article : ℕ → List ℕ → Bool
is_indefinite_article c after = (c == upper_a || c == char.letter_a) && begins_by is_whitespace (chars after)

-- whether a text begins with math or with an element that keeps its case: a span, a superscript or a subscript
unfoldable pub begins_kept : List ℕ → Bool
begins_kept text =
    starts_with eqb text (codes "$") || (starts_with eqb text (codes "<span")
    || (starts_with eqb text (codes "<sup>") || starts_with eqb text (codes "<sub>")))

-- whether the case of the first letter of a word may change; `after` is the text after this letter. It doesn't change if the word goes on
-- in math or in text that keeps its case, as in `Fe$_2$`.
unfoldable pub is_ordinary_word : ℕ → List ℕ → Bool
is_ordinary_word c after = is_indefinite_article c after || (is_small_rest (word_in after) && not (begins_kept (text_after_word after)))

-- ---- letters

-- the character of a list of one, otherwise the other character
abbrev pub single : List ℕ → ℕ → ℕ
single [] other = other
single (c ∷ []) other = c
single (c ∷ (d ∷ ds)) other = other

-- a character as a capital and as a small letter, unless that would be more than one character
unfoldable pub capital : ℕ → ℕ
capital c = single (to_uppercase c) c

unfoldable pub small : ℕ → ℕ
small c = single (to_lowercase c) c

-- the first letter of a word: a capital if a sentence begins, unchanged after a full stop and white space, and otherwise a small letter.
-- The full stop may be that of an abbreviation
abbrev pub first_letter : Sentence → ℕ → ℕ
first_letter Begins c = capital c
first_letter FollowsStop c = c
first_letter AfterMark c = small c
first_letter AfterStop c = small c
first_letter Inside c = small c

-- ---- the context of a character: the text before it

-- whether no letter changes here: inside of a word, a tag, math or an element that keeps its case
unfoldable pub keeps_case : Context → Bool
keeps_case at = at.is_in_word || (at.is_in_tag || (at.is_in_math || nat_lt 0 at.depth))

-- a character of a title in sentence case; `after` is the text after it
unfoldable pub cased : Context → ℕ → List ℕ → ℕ
cased at c after =
    if keeps_case at || not (is_letter_or_digit c) then c
    else if is_ordinary_word c after then first_letter at.sentence c
    else c

-- whether a character is a quotation mark, a parenthesis or a bracket
unfoldable pub is_enclosing : ℕ → Bool
is_enclosing c = list_any (λ mark. c == mark) (codes "\"'`()[]“”‘’«»„‚‹›")

-- the part of a sentence after white space, by the part before it
abbrev pub after_space : Sentence → Sentence
after_space Begins = Begins
after_space FollowsStop = FollowsStop
after_space AfterMark = Begins
after_space AfterStop = FollowsStop
after_space Inside = Inside

-- the part of a sentence after a character
unfoldable pub sentence_part_after : Sentence → ℕ → Sentence
sentence_part_after before c =
    if is_whitespace c then after_space before
    else if is_enclosing c then before
    else if c == char.point then AfterStop
    else if c == char.question || (c == exclamation_mark || c == char.colon) then AfterMark
    else Inside

-- whether a character after this one continues a word: also after a dollar sign, and after a backslash
unfoldable pub is_in_word_after : Bool → ℕ → Bool
is_in_word_after is_in_word c =
    is_letter_or_digit c || (c == char.dollar || (c == char.backslash || (is_in_word && continues_word c)))

-- whether the text after a less-than sign begins an element that keeps its case
unfoldable pub opens_element : List ℕ → Bool
opens_element text =
    starts_with eqb text (codes "span") || (starts_with eqb text (codes "sup>") || starts_with eqb text (codes "sub>"))

-- whether the text after a less-than sign ends such an element
unfoldable pub closes_element : List ℕ → Bool
closes_element text =
    starts_with eqb text (codes "/span") || (starts_with eqb text (codes "/sup") || starts_with eqb text (codes "/sub"))

-- whether the text after a less-than sign is that of a tag for italic or bold text
unfoldable pub is_style_tag : List ℕ → Bool
is_style_tag text =
    starts_with eqb text (codes "i>") || (starts_with eqb text (codes "/i>")
    || (starts_with eqb text (codes "b>") || starts_with eqb text (codes "/b>")))

-- whether a character and the text after it begin one of these tags
unfoldable pub begins_tag : ℕ → List ℕ → Bool
begins_tag c after = c == char.less && (opens_element after || (closes_element after || is_style_tag after))

-- the number of open elements that keep their case, after the less-than sign of a tag
unfoldable pub kept_depth_after : ℕ → List ℕ → ℕ
kept_depth_after depth after = if opens_element after then depth + 1 else if closes_element after then depth - 1 else depth

-- the context after a character outside of tags that begins no tag
unfoldable pub context_in_text : Context → ℕ → Context
context_in_text at c =
    record {
      sentence = sentence_part_after at.sentence c;
      is_in_word = is_in_word_after at.is_in_word c;
      is_in_tag = false;
      is_in_math = if c == char.dollar then not at.is_in_math else at.is_in_math;
      depth = at.depth;
    }

-- the context in a tag, and after it
unfoldable pub context_in_tag : Context → Bool → ℕ → Context
context_in_tag at is_in_tag depth =
    record {
      sentence = at.sentence;
      is_in_word = at.is_in_word;
      is_in_tag = is_in_tag;
      is_in_math = at.is_in_math;
      depth = depth;
    }

-- the context after a character; `after` is the text after it
unfoldable pub context_after : Context → ℕ → List ℕ → Context
context_after at c after =
    if at.is_in_tag then context_in_tag at (not (c == char.greater)) at.depth
    else if begins_tag c after then context_in_tag at true (kept_depth_after at.depth after)
    else context_in_text at c

-- the start of a title
abbrev pub title_start : Context
title_start = record { sentence = Begins; is_in_word = false; is_in_tag = false; is_in_math = false; depth = 0 }

-- the characters of a title from this context on, in sentence case
abbrev pub cased_from : Context → List ℕ → List ℕ
cased_from at [] = []
cased_from at (c ∷ cs) =
    encode_utf8 (cased at c (encode_utf8_all cs)) ++ cased_from (context_after at c (encode_utf8_all cs)) cs

-- a title in sentence case
unfoldable pub title_in_sentence_case : List ℕ → List ℕ
title_in_sentence_case text = cased_from title_start (chars text)
