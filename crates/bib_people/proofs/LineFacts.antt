-- The written form of a kept person.
use Rattle.std.proofs.Common.{◌≡◌, ℕ, ◌<◌, Bool, true, false, List, [], ◌∷◌, ◌++◌, length, refl, sym, ap, ◌∙◌, arith, suc, append_assoc}
use Rattle.std.specs.Prelude.{not, ◌&&◌, ◌==◌, encode_utf8_all}
use Rattle.std.specs.List.{list_all}
use Rattle.std.specs.Char.{is_whitespace}
use Rattle.unicode.specs.Binary.{is_uppercase}
use Rattle.unicode.specs.Binary.{is_lowercase}
use Rattle.std.specs.Str.{chars, IsAscii}
use Rattle.std.proofs.lemmas.Bool.{and_parts, and_from, not-true, false≢true, ne_eqb}
use Rattle.std.proofs.lemmas.List.{append-nil}
use Rattle.std.proofs.lemmas.List.Folds.{list_all-append}
use Rattle.std.proofs.lemmas.Str.{chars-IsAscii, encodes-IsAscii}
use Rattle.bib_chunks.specs.declared.chunk.Chunk.TheVariants.{Normal}
use Rattle.bib_chunks.specs.Cuts.{between_ands}
use Rattle.bib_people.specs.Names.{person}
use Rattle.bib_people.specs.People.{suffix_text, begins_capital, plain_chunks, after_prefix}
use Rattle.bib_people.specs.Kept.{is_small_letter, is_name_byte, is_word_and, is_kept_word, after_words, spaced}
use Rattle.bib_people.proofs.ByteFacts.{name_plain, name_line, is_line_byte, line_small, all_follow, ascii_of, small_low, skip_none, start_none, end_none}
use Rattle.bib_people.proofs.SpacedFacts.{is_solid, is_item, spaced_ends, spaced_begins, spaced_all, spaced_one, after_append}
use Rattle.bib_people.proofs.AndLists.{IsPart, normal, normal_part}
use Rattle.std.proofs.Math.Bool.{and-false}

-- ---- words

-- each of these words is kept, and its first byte passes the test
abbrev pub AllWords : (ℕ → Bool) → List (List ℕ) → Type 0
AllWords test words = list_all (is_kept_word test) words ≡ true

-- a kept word is one too if its first byte may be any byte of a name
pub kept_any : (test : ℕ → Bool) (word : List ℕ) → is_kept_word test word ≡ true → is_kept_word is_name_byte word ≡ true
kept_any test [] kept = absurd (false≢true kept)
kept_any test (b ∷ bs) kept =
    let outer = and_parts (test b) (list_all is_name_byte (b ∷ bs) && not (is_word_and (b ∷ bs))) kept in
    let inner = and_parts (list_all is_name_byte (b ∷ bs)) (not (is_word_and (b ∷ bs))) outer.1 in
    and_from (is_name_byte b) (list_all is_name_byte (b ∷ bs) && not (is_word_and (b ∷ bs)))
    (and_parts (is_name_byte b) (list_all is_name_byte bs) inner.0).0 outer.1

-- the same for each of several words
pub all_any : (test : ℕ → Bool) (words : List (List ℕ)) → AllWords test words → AllWords is_name_byte words
all_any test words all = all_follow (is_kept_word test) (is_kept_word is_name_byte) (kept_any test) words all

-- a byte of a name is no white space
pub name_no_space : (b : ℕ) → is_name_byte b ≡ true → not (is_whitespace b) ≡ true
name_no_space b name = (and_parts (not (is_whitespace b)) _ (name_plain b name)).0

-- an item of a line: a non-empty word of bytes of a written name, other than `and`
abbrev pub is_line_item : List ℕ → Bool
is_line_item word = is_item word && list_all is_line_byte word

-- a kept word is an item of a line
pub kept_line : (word : List ℕ) → is_kept_word is_name_byte word ≡ true → is_line_item word ≡ true
kept_line [] kept = absurd (false≢true kept)
kept_line (b ∷ bs) kept =
    let outer = and_parts (is_name_byte b) (list_all is_name_byte (b ∷ bs) && not (is_word_and (b ∷ bs))) kept in
    let inner = and_parts (list_all is_name_byte (b ∷ bs)) (not (is_word_and (b ∷ bs))) outer.1 in
    let solid : is_solid (b ∷ bs) ≡ true = all_follow is_name_byte (λ x. not (is_whitespace x)) name_no_space (b ∷ bs) inner.0 in
    and_from (is_item (b ∷ bs)) (list_all is_line_byte (b ∷ bs))
    (and_from (is_solid (b ∷ bs)) (not (is_word_and (b ∷ bs))) solid inner.1)
    (all_follow is_name_byte is_line_byte name_line (b ∷ bs) inner.0)

-- kept words are items of a line
pub all_line : (words : List (List ℕ)) → AllWords is_name_byte words → list_all is_line_item words ≡ true
all_line words all = all_follow (is_kept_word is_name_byte) is_line_item kept_line words all

line_is_item : (word : List ℕ) → is_line_item word ≡ true → is_item word ≡ true
line_is_item word line = (and_parts (is_item word) (list_all is_line_byte word) line).0

line_is_solid : (word : List ℕ) → is_line_item word ≡ true → is_solid word ≡ true
line_is_solid word line = (and_parts (is_solid word) (not (is_word_and word)) (line_is_item word line)).0

line_is_bytes : (word : List ℕ) → is_line_item word ≡ true → list_all is_line_byte word ≡ true
line_is_bytes word line = (and_parts (is_item word) (list_all is_line_byte word) line).1

-- items of a line aren't empty and contain no white space
pub items_solid : (items : List (List ℕ)) → list_all is_line_item items ≡ true → list_all is_solid items ≡ true
items_solid items all = all_follow is_line_item is_solid line_is_solid items all

-- a line consists of bytes of a written name
pub items_bytes : (items : List (List ℕ)) → list_all is_line_item items ≡ true → list_all is_line_byte (spaced items) ≡ true
items_bytes items all = spaced_all is_line_byte refl items (all_follow is_line_item (λ w. list_all is_line_byte w) line_is_bytes items all)

-- a line is ASCII
pub items_ascii : (items : List (List ℕ)) → list_all is_line_item items ≡ true → IsAscii (spaced items)
items_ascii items all = ascii_of is_line_byte line_small (spaced items) (items_bytes items all)

-- a line of items is one part of an `and` list
pub items_part : (items : List (List ℕ)) → list_all is_line_item items ≡ true → IsPart (Normal (spaced items))
items_part items all =
    let ascii : IsAscii (spaced items) = items_ascii items all in
    let same : chars (spaced items) ≡ spaced items = chars-IsAscii (spaced items) ascii in
    let solid = items_solid items all in
    let one = spaced_one items (all_follow is_line_item is_item line_is_item items all) in
    normal_part (spaced items) (ap (between_ands false) same ∙ one ∙ ap (λ t. t ∷ []) (sym same))
    (ap encode_utf8_all same ∙ encodes-IsAscii (spaced items) ascii)
    (start_none (spaced items) ascii (skip_none (spaced items) (spaced_begins items solid)))
    (end_none (spaced items) ascii (spaced_ends items solid))

-- ---- commas after words

-- words with a comma after the last
abbrev pub comma : List (List ℕ) → List (List ℕ)
comma [] = []
comma (word ∷ []) = (word ++ 44 ∷ []) ∷ []
comma (word ∷ next ∷ more) = word ∷ comma (next ∷ more)

comma_after : (word : List ℕ) (words : List (List ℕ)) → after_words (comma (word ∷ words)) ≡ after_words (word ∷ words) ++ 44 ∷ []
comma_after word [] = ap (λ l. 32 ∷ l) (append-nil (word ++ 44 ∷ []) ∙ ap (λ l. l ++ 44 ∷ []) (sym (append-nil word)))
comma_after word (next ∷ more) =
    ap (λ l. 32 ∷ (word ++ l)) (comma_after next more)
    ∙ ap (λ l. 32 ∷ l) (sym (append_assoc word (after_words (next ∷ more)) (44 ∷ [])))

-- a comma after the last word is a comma at the end of the line
comma_spaced : (word : List ℕ) (words : List (List ℕ)) → spaced (comma (word ∷ words)) ≡ spaced (word ∷ words) ++ 44 ∷ []
comma_spaced word [] = append-nil (word ++ 44 ∷ []) ∙ ap (λ l. l ++ 44 ∷ []) (sym (append-nil word))
comma_spaced word (next ∷ more) =
    ap (λ l. word ++ l) (comma_after next more) ∙ sym (append_assoc word (after_words (next ∷ more)) (44 ∷ []))

comma_some : (word : List ℕ) (words : List (List ℕ)) → 0 < length (comma (word ∷ words))
comma_some word [] = omega arith
comma_some word (next ∷ more) = omega arith

no_word : (word : List ℕ) → is_word_and (word ++ 44 ∷ []) ≡ false
no_word [] = refl
no_word (a ∷ []) = refl
no_word (a ∷ n ∷ []) = and-false (a == 97 && n == 110)
no_word (a ∷ n ∷ d ∷ []) = refl
no_word (a ∷ n ∷ d ∷ e ∷ more) = refl

comma_item : (word : List ℕ) → is_line_item word ≡ true → is_line_item (word ++ 44 ∷ []) ≡ true
comma_item [] line = absurd (false≢true line)
comma_item (b ∷ bs) line =
    let solid : list_all (λ x. not (is_whitespace x)) (b ∷ bs) ≡ true = line_is_solid (b ∷ bs) line in
    let all_solid : list_all (λ x. not (is_whitespace x)) ((b ∷ bs) ++ 44 ∷ []) ≡ true =
    list_all-append (λ x. not (is_whitespace x)) (b ∷ bs) (44 ∷ []) ∙ and_from _ true solid refl in
    let all_bytes : list_all is_line_byte ((b ∷ bs) ++ 44 ∷ []) ≡ true =
    list_all-append is_line_byte (b ∷ bs) (44 ∷ []) ∙ and_from _ true (line_is_bytes (b ∷ bs) line) refl in
    and_from (is_item ((b ∷ bs) ++ 44 ∷ [])) (list_all is_line_byte ((b ∷ bs) ++ 44 ∷ []))
    (and_from (is_solid ((b ∷ bs) ++ 44 ∷ [])) (not (is_word_and ((b ∷ bs) ++ 44 ∷ []))) all_solid (ap not (no_word (b ∷ bs)))) all_bytes

-- items of a line are such items with a comma after the last one too
pub comma_items : (words : List (List ℕ)) → list_all is_line_item words ≡ true → list_all is_line_item (comma words) ≡ true
comma_items [] all = refl
comma_items (word ∷ []) all =
    and_from (is_line_item (word ++ 44 ∷ [])) true (comma_item word (and_parts (is_line_item word) true all).0) refl
comma_items (word ∷ next ∷ more) all =
    let both = and_parts (is_line_item word) (list_all is_line_item (next ∷ more)) all in
    and_from (is_line_item word) (list_all is_line_item (comma (next ∷ more))) both.0 (comma_items (next ∷ more) both.1)

-- ---- a person

-- appended non-empty lists of words have a space between them
pub spaced_then : (xs ys : List (List ℕ)) → 0 < length xs → 0 < length ys → spaced (xs ++ ys) ≡ spaced xs ++ (32 ∷ spaced ys)
spaced_then [] ys some more = absurd (omega arith)
spaced_then (x ∷ xs) [] some more = absurd (omega arith)
spaced_then (x ∷ xs) (y ∷ ys) some more =
    ap (λ l. x ++ l) (after_append xs (y ∷ ys)) ∙ sym (append_assoc x (after_words xs) (after_words (y ∷ ys)))

-- the words of a person, with a comma after the family name and one after the suffix
abbrev pub line_items : List (List ℕ) → List (List ℕ) → List (List ℕ) → List (List ℕ)
line_items leading_run suffix given = comma leading_run ++ (comma suffix ++ given)

-- the words of a person are items of a line if they are kept
pub line_all : (leading_run suffix given : List (List ℕ)) → AllWords is_name_byte leading_run
    → AllWords is_name_byte suffix → AllWords is_name_byte given
    → list_all is_line_item (line_items leading_run suffix given) ≡ true
line_all leading_run suffix given one two three =
    list_all-append is_line_item (comma leading_run) (comma suffix ++ given)
    ∙ and_from _ _ (comma_items leading_run (all_line leading_run one))
    (list_all-append is_line_item (comma suffix) given ∙ and_from _ _ (comma_items suffix (all_line suffix two)) (all_line given three))

first_some : (word : List ℕ) (words : List (List ℕ)) → AllWords is_name_byte (word ∷ words) → (length (spaced (word ∷ words)) == 0) ≡ false
first_some [] words all = absurd (false≢true all)
first_some (b ∷ bs) words all = ne_eqb (suc (length (bs ++ after_words words))) 0 (λ none. omega arith)

-- a suffix of kept words, if any, with a comma after it, and a given name are the line of their words
pub suffix_line : (suffix given : List (List ℕ)) → AllWords is_name_byte suffix → 0 < length given
    → suffix_text (spaced suffix) ++ spaced given ≡ spaced (comma suffix ++ given)
suffix_line [] given all some = refl
suffix_line (s ∷ ss) given all some =
    let long : suffix_text (spaced (s ∷ ss)) ≡ spaced (s ∷ ss) ++ (44 ∷ 32 ∷ []) = rw (first_some s ss all) refl in
    ap (λ l. l ++ spaced given) long
    ∙ append_assoc (spaced (s ∷ ss)) (44 ∷ 32 ∷ []) (spaced given)
    ∙ sym (append_assoc (spaced (s ∷ ss)) (44 ∷ []) (32 ∷ spaced given))
    ∙ ap (λ l. l ++ (32 ∷ spaced given)) (sym (comma_spaced s ss))
    ∙ sym (spaced_then (comma (s ∷ ss)) given (comma_some s ss) some)

-- a list with a non-empty end isn't empty
pub more_some : (xs ys : List (List ℕ)) → 0 < length ys → 0 < length (xs ++ ys)
more_some [] ys some = some
more_some (x ∷ xs) ys some = omega arith

-- the line of a person: the words before the first comma, the comma and a space, the suffix (kept words, if any), and the given name
pub line_spelt : (leading_run suffix given : List (List ℕ)) → 0 < length leading_run → AllWords is_name_byte suffix → 0 < length given
    → spaced (line_items leading_run suffix given) ≡ spaced leading_run ++ (44 ∷ 32 ∷ (suffix_text (spaced suffix) ++ spaced given))
line_spelt [] suffix given none all some = absurd (omega arith)
line_spelt (f ∷ fs) suffix given first all some =
    spaced_then (comma (f ∷ fs)) (comma suffix ++ given) (comma_some f fs) (more_some (comma suffix) given some)
    ∙ ap (λ l. l ++ (32 ∷ spaced (comma suffix ++ given))) (comma_spaced f fs)
    ∙ append_assoc (spaced (f ∷ fs)) (44 ∷ []) (32 ∷ spaced (comma suffix ++ given))
    ∙ ap (λ l. spaced (f ∷ fs) ++ (44 ∷ 32 ∷ l)) (sym (suffix_line suffix given all some))

-- `plain_chunks` writes a person of kept words as one normal chunk,
-- if there are a family name and a given name, and the words of the prefix, if any, begin in lower case
pub plain_line : (prefix name suffix given : List (List ℕ)) → AllWords is_small_letter prefix → 0 < length name
    → AllWords is_name_byte suffix → 0 < length given
    → plain_chunks (person (spaced name) (spaced given) (spaced prefix) (spaced suffix))
    ≡ normal (spaced (line_items (prefix ++ name) suffix given)) ∷ []
plain_line [] name suffix given small has_name all has_given =
    ap (λ t. normal t ∷ []) (sym (line_spelt name suffix given has_name all has_given))
plain_line ([] ∷ xs) name suffix given small has_name all has_given = absurd (false≢true small)
plain_line ((b ∷ bs) ∷ xs) name suffix given small has_name all has_given =
    let words = (b ∷ bs) ∷ xs in
    let any = all_any is_small_letter words small in
    let first = and_parts (is_kept_word is_small_letter (b ∷ bs)) (list_all (is_kept_word is_small_letter) xs) small in
    let letter = (and_parts (is_small_letter b) _ first.0).0 in
    let low = not-true (is_uppercase b) (and_parts (is_lowercase b) (not (is_uppercase b)) (small_low b letter)).1 in
    let same : chars (spaced words) ≡ spaced words = chars-IsAscii (spaced words) (items_ascii words (all_line words any)) in
    let no_capital : begins_capital (chars (spaced words)) ≡ false = ap begins_capital same ∙ low in
    let some : (length (spaced words) == 0) ≡ false = first_some (b ∷ bs) xs any in
    let p = person (spaced name) (spaced given) (spaced words) (spaced suffix) in
    let text : spaced words ++ (32 ∷ after_prefix p) ≡ spaced (line_items (words ++ name) suffix given) =
    sym (append_assoc (spaced words) (32 ∷ spaced name) (44 ∷ 32 ∷ (suffix_text (spaced suffix) ++ spaced given)))
    ∙ ap (λ l. l ++ (44 ∷ 32 ∷ (suffix_text (spaced suffix) ++ spaced given))) (sym (spaced_then words name (omega arith) has_name))
    ∙ sym (line_spelt (words ++ name) suffix given (omega arith) all has_given) in
    rw (some, no_capital) (ap (λ t. normal t ∷ []) text)
