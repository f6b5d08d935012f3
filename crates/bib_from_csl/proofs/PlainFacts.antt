-- A plain name is written as one line of its words, in BibTeX's form.
use Rattle.std.proofs.Common.{◌≡◌, ℕ, ◌<◌, suc, Bool, true, false, cond, List, [], ◌∷◌, ◌++◌, length, refl, sym, ap, ap₂, ◌∙◌, arith}
use Rattle.std.proofs.lemmas.List.{append-nil}
use Rattle.std.proofs.Common.{append_assoc}
use Rattle.std.specs.Prelude.{not, ◌&&◌, ◌||◌, ◌==◌, codes, encode_utf8_all}
use Rattle.std.specs.List.{list_all, list_any, slice_split, onto_first, range_with_len}
use Rattle.std.specs.Str.{chars, IsAscii}
use Rattle.unicode.specs.Binary.{is_lowercase, is_uppercase}
use Rattle.std.proofs.lemmas.Bool.{and_parts, and_from, or_parts, not-true, false≢true, ne_eqb, both_ways}
use Rattle.std.proofs.lemmas.List.Folds.{list_all-append}
use Rattle.std.proofs.lemmas.List.Splits.{slice_split-cons_no}
use Rattle.std.proofs.lemmas.Str.{chars-IsAscii, encodes-IsAscii}
use Rattle.bib_chunks.specs.declared.chunk.Chunk.TheVariants.{Normal}
use Rattle.bib_chunks.specs.Formatted.{flowing, space_after, is_unbroken}
use Rattle.bib_chunks.proofs.FormattedFacts.{flowing_run}
use Rattle.bib_chunks.specs.Values.{nowhere, text}
use Rattle.bib_people.specs.declared.person.Person.{Person}
use Rattle.bib_people.specs.Names.{person}
use Rattle.bib_people.specs.People.{person_chunks, plain_chunks, suffix_text}
use Rattle.bib_people.specs.Kept.{after_words, is_capital_letter, is_kept_word, is_name_byte, is_small_letter, is_word_and, spaced, IsKeptPerson}
use Rattle.bib_people.proofs.AndLists.{IsPart, before_and, formatted_empties, padded}
use Rattle.bib_people.proofs.ByteFacts.{all_follow, ascii_fact, ascii_of, capital_not_low, is_line_byte, line_open, name_small, small_low, implied}
use Rattle.bib_people.proofs.LineFacts.{AllWords, all_any, is_line_item, items_ascii, items_bytes, items_part, line_all, line_items, line_spelt, more_some, plain_line, spaced_then}
use Rattle.bib_people.proofs.SurviveFacts.{some_words}
use Rattle.bib_csl.specs.declared.item.NameParts.{NameParts}
use Rattle.std.proofs.Math.Bool.{or-true}
use Rattle.bib_from_csl.specs.PlainPeople.{IsPlainParts}
use Rattle.bib_from_csl.specs.Values.{divides_lists, has_and}
use Rattle.bib_from_csl.specs.WrittenPeople.{are_plain_words, begins_small, begins_with_small, extended_chunks, has_no_small_word, has_small_words, is_bibtex_name, is_nothing_or_words, is_one_word, is_plain_particle, is_plain_word, may_stand_in_name, particle, parts_chunks, plain_text_of, with_separator, words_in}

-- ---- words

stands_table : list_all (λ b. not (is_name_byte b) || may_stand_in_name b) (range_with_len 0 128) ≡ true
stands_table = refl

name_stands : (b : ℕ) → is_name_byte b ≡ true → may_stand_in_name b ≡ true
name_stands b name =
    implied (is_name_byte b) (may_stand_in_name b)
    (ascii_fact (λ x. not (is_name_byte x) || may_stand_in_name x) stands_table b (name_small b name)) name

free_table : list_all (λ b. not (is_name_byte b) || (not (b == 32) && not (b == 126))) (range_with_len 0 128) ≡ true
free_table = refl

pub name_free : (b : ℕ) → is_name_byte b ≡ true → (not (b == 32) && not (b == 126)) ≡ true
name_free b name =
    implied (is_name_byte b) (not (b == 32) && not (b == 126))
    (ascii_fact (λ x. not (is_name_byte x) || (not (x == 32) && not (x == 126))) free_table b (name_small b name))
    name

-- the properties of a kept word
pub record Kept (word : List ℕ) : Type 0 where
  pub bytes : list_all is_name_byte word ≡ true
  pub other : is_word_and word ≡ false
  pub some : (length word == 0) ≡ false

pub kept_parts : (test : ℕ → Bool) (word : List ℕ) → is_kept_word test word ≡ true → Kept word
kept_parts test [] kept = absurd (false≢true kept)
kept_parts test (b ∷ bs) kept =
    let outer = and_parts (test b) (list_all is_name_byte (b ∷ bs) && not (is_word_and (b ∷ bs))) kept in
    let inner = and_parts (list_all is_name_byte (b ∷ bs)) (not (is_word_and (b ∷ bs))) outer.1 in
    record { bytes = inner.0; other = not-true (is_word_and (b ∷ bs)) inner.1; some = ne_eqb (suc (length bs)) 0 (λ none. omega arith) }

not_space : (b : ℕ) → is_name_byte b ≡ true → (b == 32) ≡ false
not_space b name = not-true (b == 32) (and_parts (not (b == 32)) (not (b == 126)) (name_free b name)).0

-- splitting a word, a space and a rest at spaces gives the word, and then the parts of the rest
split_word : (word rest : List ℕ) → list_all is_name_byte word ≡ true
    → slice_split (λ b. b == 32) (word ++ 32 ∷ rest) ≡ word ∷ slice_split (λ b. b == 32) rest
split_word [] rest all = refl
split_word (b ∷ bs) rest all =
    let both = and_parts (is_name_byte b) (list_all is_name_byte bs) all in
    slice_split-cons_no (λ c. c == 32) b (bs ++ 32 ∷ rest) (not_space b both.0) ∙ ap (onto_first b) (split_word bs rest both.1)

split_last : (word : List ℕ) → list_all is_name_byte word ≡ true → slice_split (λ b. b == 32) word ≡ word ∷ []
split_last [] all = refl
split_last (b ∷ bs) all =
    let both = and_parts (is_name_byte b) (list_all is_name_byte bs) all in
    slice_split-cons_no (λ c. c == 32) b bs (not_space b both.0) ∙ ap (onto_first b) (split_last bs both.1)

split_spaced : (word : List ℕ) (words : List (List ℕ)) → AllWords is_name_byte (word ∷ words)
    → slice_split (λ b. b == 32) (word ++ after_words words) ≡ word ∷ words
split_spaced word [] all =
    let kept = kept_parts is_name_byte word (and_parts (is_kept_word is_name_byte word) true all).0 in
    ap (slice_split (λ b. b == 32)) (append-nil word) ∙ split_last word kept.bytes
split_spaced word (next ∷ more) all =
    let both = and_parts (is_kept_word is_name_byte word) (list_all (is_kept_word is_name_byte) (next ∷ more)) all in
    split_word word (next ++ after_words more) (kept_parts is_name_byte word both.0).bytes
    ∙ ap (λ l. word ∷ l) (split_spaced next more both.1)

words_in_spaced : (words : List (List ℕ)) → AllWords is_name_byte words → 0 < length words → words_in (spaced words) ≡ words
words_in_spaced [] all some = absurd (omega arith)
words_in_spaced (word ∷ words) all some = split_spaced word words all

-- the words of a text without the word `and`
words_free : (text : List ℕ) (words : List (List ℕ)) → text ≡ spaced words → AllWords is_name_byte words → not (has_and text) ≡ true
    → list_any divides_lists words ≡ false
words_free text [] spell all free = refl
words_free text (w ∷ ws) spell all free =
    sym (ap (list_any divides_lists) (ap words_in spell ∙ words_in_spaced (w ∷ ws) all (omega arith)))
    ∙ not-true (list_any divides_lists (words_in text)) free

ascii_word : (word : List ℕ) → list_all is_name_byte word ≡ true → chars word ≡ word
ascii_word word bytes = chars-IsAscii word (ascii_of is_name_byte name_small word bytes)

plain_word : (word : List ℕ) → is_kept_word is_name_byte word ≡ true → divides_lists word ≡ false → is_plain_word word ≡ true
plain_word word kept other =
    let k = kept_parts is_name_byte word kept in
    and_from (not (length word == 0)) _ (ap not k.some)
    (and_from (not (divides_lists word)) (list_all may_stand_in_name (chars word)) (ap not other)
    (ap (list_all may_stand_in_name) (ascii_word word k.bytes) ∙ all_follow is_name_byte may_stand_in_name name_stands word k.bytes))

each_plain : (words : List (List ℕ)) → AllWords is_name_byte words → list_any divides_lists words ≡ false
    → list_all is_plain_word words ≡ true
each_plain [] all free = refl
each_plain (w ∷ ws) all free =
    let both = and_parts (is_kept_word is_name_byte w) (list_all (is_kept_word is_name_byte) ws) all in
    let other = or_parts (divides_lists w) (list_any divides_lists ws) free in
    and_from (is_plain_word w) (list_all is_plain_word ws) (plain_word w both.0 other.0) (each_plain ws both.1 other.1)

plain_words : (words : List (List ℕ)) → AllWords is_name_byte words → list_any divides_lists words ≡ false → 0 < length words
    → are_plain_words (spaced words) ≡ true
plain_words words all free some = ap (list_all is_plain_word) (words_in_spaced words all some) ∙ each_plain words all free

capital_word : (word : List ℕ) → is_kept_word is_capital_letter word ≡ true → begins_with_small word ≡ false
capital_word [] kept = absurd (false≢true kept)
capital_word (b ∷ bs) kept =
    let outer = and_parts (is_capital_letter b) _ kept in
    ap begins_small (ascii_word (b ∷ bs) (kept_parts is_capital_letter (b ∷ bs) kept).bytes) ∙ capital_not_low b outer.0

small_word : (word : List ℕ) → is_kept_word is_small_letter word ≡ true → begins_with_small word ≡ true
small_word [] kept = absurd (false≢true kept)
small_word (b ∷ bs) kept =
    let outer = and_parts (is_small_letter b) _ kept in
    ap begins_small (ascii_word (b ∷ bs) (kept_parts is_small_letter (b ∷ bs) kept).bytes)
    ∙ (and_parts (is_lowercase b) (not (is_uppercase b)) (small_low b outer.0)).0

no_small : (words : List (List ℕ)) → AllWords is_capital_letter words → list_any begins_with_small words ≡ false
no_small [] all = refl
no_small (w ∷ ws) all =
    let both = and_parts (is_kept_word is_capital_letter w) (list_all (is_kept_word is_capital_letter) ws) all in
    rw (capital_word w both.0) (no_small ws both.1)

spaced_some : (words : List (List ℕ)) → AllWords is_name_byte words → 0 < length words → (length (spaced words) == 0) ≡ false
spaced_some [] all some = absurd (omega arith)
spaced_some ([] ∷ ws) all some = absurd (false≢true all)
spaced_some ((b ∷ bs) ∷ ws) all some = ne_eqb (suc (length (bs ++ after_words ws))) 0 (λ none. omega arith)

nothing_or_plain : (words : List (List ℕ)) → AllWords is_name_byte words → list_any divides_lists words ≡ false
    → is_nothing_or_words (spaced words) ≡ true
nothing_or_plain [] all free = refl
nothing_or_plain (w ∷ ws) all free =
    ap₂ (λ a b. a || b) (spaced_some (w ∷ ws) all (omega arith)) (plain_words (w ∷ ws) all free (omega arith))

plain_particle : (words : List (List ℕ)) → AllWords is_small_letter words → list_any divides_lists words ≡ false
    → is_plain_particle (spaced words) ≡ true
plain_particle [] all free = refl
plain_particle (w ∷ ws) all free =
    let any = all_any is_small_letter (w ∷ ws) all in
    let small : has_small_words (spaced (w ∷ ws)) ≡ true =
    ap (list_all begins_with_small) (words_in_spaced (w ∷ ws) any (omega arith))
    ∙ all_follow (is_kept_word is_small_letter) begins_with_small small_word (w ∷ ws) all in
    ap₂ (λ a b. a || b) (spaced_some (w ∷ ws) any (omega arith))
    (and_from (are_plain_words (spaced (w ∷ ws))) (has_small_words (spaced (w ∷ ws)))
    (plain_words (w ∷ ws) any free (omega arith)) small)

-- ---- a plain name in BibTeX's form

-- if a name has a family name and a given name, and its words are kept, its parts with their separators are the line of its words
pub text_line : (prefix name suffix given : List (List ℕ)) → AllWords is_small_letter prefix
    → AllWords is_name_byte name → 0 < length name → AllWords is_name_byte suffix → 0 < length given
    → with_separator (spaced prefix) (codes " ")
    ++
    (with_separator (spaced name) (codes ", ")
    ++ (with_separator (spaced suffix) (codes ", ") ++ spaced given))
    ≡ spaced (line_items (prefix ++ name) suffix given)
text_line prefix name suffix given small capital has_name tail has_given = of prefix small where
  after : with_separator (spaced name) (codes ", ") ++ (with_separator (spaced suffix) (codes ", ") ++ spaced given)
      ≡ spaced name ++ (44 ∷ 32 ∷ (suffix_text (spaced suffix) ++ spaced given))
  after =
      ap (λ b. cond b [] (spaced name ++ codes ", ") ++ (suffix_text (spaced suffix) ++ spaced given))
      (spaced_some name capital has_name)
      ∙ append_assoc (spaced name) (codes ", ") (suffix_text (spaced suffix) ++ spaced given)

  of : (prefix : List (List ℕ)) → AllWords is_small_letter prefix
      → with_separator (spaced prefix) (codes " ")
      ++
      (with_separator (spaced name) (codes ", ")
      ++ (with_separator (spaced suffix) (codes ", ") ++ spaced given))
      ≡ spaced (line_items (prefix ++ name) suffix given)
  of [] small = after ∙ sym (line_spelt name suffix given has_name tail has_given)
  of (w ∷ ws) small =
      let rest = 44 ∷ 32 ∷ (suffix_text (spaced suffix) ++ spaced given) in
      ap
      (λ b.
      cond b [] (spaced (w ∷ ws) ++ codes " ")
      ++
      (with_separator (spaced name) (codes ", ")
      ++ (with_separator (spaced suffix) (codes ", ") ++ spaced given)))
      (spaced_some (w ∷ ws) (all_any is_small_letter (w ∷ ws) small) (omega arith))
      ∙ append_assoc (spaced (w ∷ ws)) (codes " ")
      (with_separator (spaced name) (codes ", ") ++ (with_separator (spaced suffix) (codes ", ") ++ spaced given))
      ∙ ap (λ t. spaced (w ∷ ws) ++ (32 ∷ t)) after
      ∙ sym (append_assoc (spaced (w ∷ ws)) (32 ∷ spaced name) rest)
      ∙ ap (λ l. l ++ rest) (sym (spaced_then (w ∷ ws) name (omega arith) has_name))
      ∙ sym (line_spelt ((w ∷ ws) ++ name) suffix given (omega arith) tail has_given)

-- the items of the line of a plain name; the text of the line is the next definition
words_of_parts : (uses : Bool) (p : NameParts) (k : IsPlainParts uses p) → List (List ℕ)
words_of_parts uses p k = line_items (k.prefix.words ++ k.family.words) k.suffix.words k.given_name.words

pub text_of_parts : (uses : Bool) (p : NameParts) (k : IsPlainParts uses p) → List ℕ
text_of_parts uses p k = spaced (words_of_parts uses p k)

some_given : (uses : Bool) (p : NameParts) → IsPlainParts uses p → (length p.given == 0) ≡ false
some_given uses p k = ne_eqb (length p.given) 0 (λ none. omega (arith, k.has_given, none))

and_second : (a b c : Bool) → b ≡ false → (a && (b && c)) ≡ false
and_second true true c is = absurd (both_ways true is refl)
and_second true false c is = refl
and_second false b c is = refl

family_words : (uses : Bool) (p : NameParts) (k : IsPlainParts uses p) → 0 < length k.family.words
family_words uses p k = some_words k.family.words (omega (arith, k.has_family, ap length k.family.spell))

given_words : (uses : Bool) (p : NameParts) (k : IsPlainParts uses p) → 0 < length k.given_name.words
given_words uses p k = some_words k.given_name.words (omega (arith, k.has_given, ap length k.given_name.spell))

not_one_word : (uses : Bool) (p : NameParts) → IsPlainParts uses p → is_one_word p ≡ false
unfolding is_one_word
not_one_word uses p k = and_second (is_plain_word p.family) (length p.given == 0) _ (some_given uses p k)

bibtex_name : (uses : Bool) (p : NameParts) → IsPlainParts uses p → is_bibtex_name uses p ≡ true
unfolding is_bibtex_name
bibtex_name uses p k =
    let family = k.family.words in
    let any : AllWords is_name_byte family = all_any is_capital_letter family k.family.kept in
    let has_family = family_words uses p k in
    let in_family = and_parts (not (has_and p.family)) _ k.no_and in
    let in_given = and_parts (not (has_and p.given)) _ in_family.1 in
    let in_suffix = and_parts (not (has_and p.suffix)) _ in_given.1 in
    let in_prefix = and_parts (not (has_and (particle uses p))) true in_suffix.1 in
    let plain : are_plain_words p.family ≡ true =
    ap are_plain_words k.family.spell
    ∙ plain_words family any (words_free p.family family k.family.spell any in_family.0) has_family in
    let large : has_no_small_word p.family ≡ true =
    ap has_no_small_word k.family.spell
    ∙ ap not
    (ap (list_any begins_with_small) (words_in_spaced family any has_family) ∙ no_small family k.family.kept) in
    let given : are_plain_words p.given ≡ true =
    ap are_plain_words k.given_name.spell
    ∙ plain_words k.given_name.words k.given_name.kept
    (words_free p.given k.given_name.words k.given_name.spell k.given_name.kept in_given.0) (given_words uses p k) in
    let suffix : is_nothing_or_words p.suffix ≡ true =
    ap is_nothing_or_words k.suffix.spell
    ∙ nothing_or_plain k.suffix.words k.suffix.kept
    (words_free p.suffix k.suffix.words k.suffix.spell k.suffix.kept in_suffix.0) in
    let prefix : is_plain_particle (particle uses p) ≡ true =
    ap is_plain_particle k.prefix.spell
    ∙ plain_particle k.prefix.words k.prefix.kept
    (words_free (particle uses p) k.prefix.words k.prefix.spell (all_any is_small_letter k.prefix.words k.prefix.kept) in_prefix.0) in
    let other : (length (particle (not uses) p) == 0) ≡ true = ap (λ t. length t == 0) k.no_other in
    and_from _ _ plain (and_from _ _ large (and_from _ _ given (and_from _ _ suffix (and_from _ _ prefix other))))

plain_text_is : (uses : Bool) (p : NameParts) (k : IsPlainParts uses p) → plain_text_of uses p ≡ text_of_parts uses p k
unfolding plain_text_of text_of_parts words_of_parts
plain_text_is uses p k =
    ap
    (λ x.
    with_separator x (codes " ")
    ++ (with_separator p.family (codes ", ") ++ (with_separator p.suffix (codes ", ") ++ p.given)))
    k.prefix.spell
    ∙ ap
    (λ x.
    with_separator (spaced k.prefix.words) (codes " ")
    ++ (with_separator x (codes ", ") ++ (with_separator p.suffix (codes ", ") ++ p.given))) k.family.spell
    ∙ ap
    (λ x.
    with_separator (spaced k.prefix.words) (codes " ")
    ++ (with_separator (spaced k.family.words) (codes ", ") ++ (with_separator x (codes ", ") ++ p.given)))
    k.suffix.spell
    ∙ ap
    (λ x.
    with_separator (spaced k.prefix.words) (codes " ")
    ++
    (with_separator (spaced k.family.words) (codes ", ")
    ++ (with_separator (spaced k.suffix.words) (codes ", ") ++ x))) k.given_name.spell
    ∙ text_line k.prefix.words k.family.words k.suffix.words k.given_name.words k.prefix.kept
    (all_any is_capital_letter k.family.words k.family.kept) (family_words uses p k) k.suffix.kept
    (given_words uses p k)

pub parts_written : (uses : Bool) (p : NameParts) (k : IsPlainParts uses p)
    → parts_chunks uses p ≡ nowhere (Normal (text_of_parts uses p k)) ∷ []
unfolding parts_chunks
parts_written uses p k =
    ap
    (λ b.
    cond b (nowhere (Normal p.family) ∷ [])
    (cond (is_bibtex_name uses p) (nowhere (Normal (plain_text_of uses p)) ∷ []) (extended_chunks p)))
    (not_one_word uses p k)
    ∙ ap (λ b. cond b (nowhere (Normal (plain_text_of uses p)) ∷ []) (extended_chunks p)) (bibtex_name uses p k)
    ∙ ap (λ t. nowhere (Normal t) ∷ []) (plain_text_is uses p k)

-- the words of the particle and of the family name of a plain name are kept words
line_words : (uses : Bool) (p : NameParts) (k : IsPlainParts uses p) → AllWords is_name_byte (k.prefix.words ++ k.family.words)
line_words uses p k =
    list_all-append (is_kept_word is_name_byte) k.prefix.words k.family.words
    ∙ and_from _ _ (all_any is_small_letter k.prefix.words k.prefix.kept) (all_any is_capital_letter k.family.words k.family.kept)

line_is : (uses : Bool) (p : NameParts) (k : IsPlainParts uses p) → list_all is_line_item (words_of_parts uses p k) ≡ true
unfolding words_of_parts
line_is uses p k =
    line_all (k.prefix.words ++ k.family.words) k.suffix.words k.given_name.words (line_words uses p k) k.suffix.kept
    k.given_name.kept

pub parts_part : (uses : Bool) (p : NameParts) (k : IsPlainParts uses p) → IsPart (Normal (text_of_parts uses p k))
unfolding text_of_parts
parts_part uses p k = items_part (words_of_parts uses p k) (line_is uses p k)

-- the person of a name
abbrev pub named_person : Bool → NameParts → Person
named_person uses p = person p.family p.given (particle uses p) p.suffix

pub kept_person : (uses : Bool) (p : NameParts) → IsPlainParts uses p → IsKeptPerson (named_person uses p)
kept_person uses p k = record {
  name = k.family;
  given_name = k.given_name;
  prefix = k.prefix;
  suffix = k.suffix;
  has_name = k.has_family;
  has_given_name = k.has_given;
  no_id = refl;
  no_prefix_initials = refl;
  no_given_initials = refl;
  no_use_prefix = refl;
}

pub person_is : (uses : Bool) (p : NameParts) (k : IsPlainParts uses p)
    → person_chunks (named_person uses p) ≡ nowhere (Normal (text_of_parts uses p k)) ∷ []
unfolding text_of_parts words_of_parts
person_is uses p k =
    ap (λ x. plain_chunks (person x p.given (particle uses p) p.suffix)) k.family.spell
    ∙ ap (λ x. plain_chunks (person (spaced k.family.words) x (particle uses p) p.suffix)) k.given_name.spell
    ∙ ap (λ x. plain_chunks (person (spaced k.family.words) (spaced k.given_name.words) x p.suffix)) k.prefix.spell
    ∙ ap (λ x. plain_chunks (person (spaced k.family.words) (spaced k.given_name.words) (spaced k.prefix.words) x)) k.suffix.spell
    ∙ plain_line k.prefix.words k.family.words k.suffix.words k.given_name.words k.prefix.kept (family_words uses p k)
    k.suffix.kept (given_words uses p k)

-- if decoding, `flowing` and encoding leave `t` unchanged, its normal chunk has the text `t`, with or without empty chunks around it
shown_normal : (t : List ℕ) (before following : Bool) → chars t ≡ t → flowing false t ≡ t → encode_utf8_all t ≡ t
    → text (padded before following (Normal t)) ≡ t
unfolding chars
shown_normal t false following same flows spelt =
    ap encode_utf8_all
    (ap₂ (λ a b. a ++ b) (ap (flowing false) same ∙ flows)
    (formatted_empties before_and (space_after false (Normal t)) following) ∙ append-nil t) ∙ spelt
shown_normal t true following same flows spelt =
    ap encode_utf8_all
    (ap₂ (λ a b. a ++ b) (ap (flowing false) same ∙ flows)
    (formatted_empties before_and (space_after false (Normal t)) following) ∙ append-nil t) ∙ spelt

-- two texts with a comma between them contain a comma; by the next lemma, so does the line of a plain name
has_comma : (leading_run rest : List ℕ) → list_any (λ b. b == 44) (leading_run ++ (44 ∷ rest)) ≡ true
has_comma [] rest = refl
has_comma (b ∷ bs) rest = ap (λ c. (b == 44) || c) (has_comma bs rest) ∙ or-true (b == 44)

pub line_comma : (uses : Bool) (p : NameParts) (k : IsPlainParts uses p) → list_any (λ b. b == 44) (text_of_parts uses p k) ≡ true
unfolding text_of_parts words_of_parts
line_comma uses p k =
    ap (list_any (λ b. b == 44))
    (line_spelt (k.prefix.words ++ k.family.words) k.suffix.words k.given_name.words
    (more_some k.prefix.words k.family.words (family_words uses p k)) k.suffix.kept (given_words uses p k))
    ∙ has_comma (spaced (k.prefix.words ++ k.family.words)) _

-- the text of the chunk with the line of a plain name, with or without empty chunks around it, is the line
pub line_shown : (uses : Bool) (p : NameParts) (k : IsPlainParts uses p) (before following : Bool)
    → text (padded before following (Normal (text_of_parts uses p k))) ≡ text_of_parts uses p k
unfolding text_of_parts
line_shown uses p k before following =
    let words = words_of_parts uses p k in
    let all = line_is uses p k in
    let t = spaced words in
    let ascii : IsAscii t = items_ascii words all in
    let runs : list_all is_unbroken t ≡ true =
    all_follow is_line_byte is_unbroken (λ b line. (and_parts (not (b == 61)) (is_unbroken b) (line_open b line)).1) t
    (items_bytes words all) in
    let flows : flowing false t ≡ t = ap (flowing false) (sym (append-nil t)) ∙ flowing_run false t [] runs ∙ append-nil t in
    shown_normal t before following (chars-IsAscii t ascii) flows (encodes-IsAscii t ascii)
