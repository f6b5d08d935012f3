-- Kept people parse from their written form.
use Rattle.std.proofs.Common.{Some, ◌≡◌, ℕ, ◌<◌, Bool, true, false, List, [], ◌∷◌, ◌++◌, length, map, take, drop, refl, sym, ap, subst, ◌∙◌, arith, suc, cond, append_assoc, None, ◌⊎◌}
use Rattle.std.specs.Prelude.{not, ◌==◌, codes, encode_utf8_all}
use Rattle.std.specs.List.{list_all, list_any}
use Rattle.std.specs.Str.{trim_start, trim_end, IsAscii}
use Rattle.std.proofs.lemmas.Bool.{and_parts, and_from, false≢true, ne_eqb}
use Rattle.std.proofs.lemmas.List.{take_at, drop_at}
use Rattle.std.proofs.lemmas.List.Folds.{list_all-append}
use Rattle.std.proofs.lemmas.Str.{chars-IsAscii, encodes-IsAscii}
use Rattle.bib_chunks.specs.declared.chunk.Chunk.{Chunk}
use Rattle.bib_chunks.specs.declared.chunk.Chunk.TheVariants.{Normal}
use Rattle.bib_text.specs.declared.spanned.Spanned.{Spanned}
use Rattle.bib_chunks.specs.Formatted.{formatted_chars, is_unbroken}
use Rattle.bib_chunks.specs.Cuts.{cut_at}
use Rattle.bib_people.specs.declared.person.Person.{Person}
use Rattle.bib_people.specs.Letters.{Letter, letters, words_of, text_of_words}
use Rattle.bib_people.specs.Names.{before_comma, person, trimmed_text, at_last_space, with_comma, with_commas, cut_by_commas, by_commas, before_comma_person, cut_person, in_parts, is_in_parts, person_of}
use Rattle.bib_people.specs.People.{people_of, people_chunks, people_from, person_chunks, suffix_text}
use Rattle.bib_people.specs.Kept.{is_capital_letter, is_small_letter, is_name_byte, is_kept_word, after_words, spaced, IsKeptPerson, AllKept, ArePeople}
use Rattle.bib_people.proofs.WordFacts.{letter, spelt}
use Rattle.bib_people.proofs.ByteFacts.{line_open, is_line_byte, all_follow, none_of, skip_none, start_one}
use Rattle.bib_people.proofs.SpacedFacts.{spaced_begins, words_at, spaced_words_of}
use Rattle.bib_people.proofs.LineFacts.{comma, comma_items, suffix_line, more_some, is_line_item, AllWords, all_any, all_line, items_solid, items_ascii, items_bytes, items_part, line_items, line_all, line_spelt, plain_line}
use Rattle.std.specs.declared.ops.Range.{Range}
use Rattle.bib_chunks.proofs.SeparatedFacts.{no_place}
use Rattle.bib_people.proofs.AndLists.{empties, before_and, after_and, normal, padded, padded_parts, written_after, IsPart, AllParts, and_list_written}
use Rattle.bib_people.proofs.CommaFacts.{stands, AreHalves, halves_at, cut_first_comma, cut_no_comma}
use Rattle.bib_people.proofs.TextFacts.{is_text, space_small, after_space, shown_text, not_blank, letters_text, words_append, low_words, high_words, a_cut, cut_prefix, spelt_words}

-- ---- one person

-- a part whose text contains no equals sign isn't in the extended format
padded_no_equals : (before following : Bool) (text : List ℕ) → list_any (λ b. b == 61) text ≡ false
    → is_in_parts (padded before following (Normal text)) ≡ false
padded_no_equals true true text none = rw none refl
padded_no_equals true false text none = rw none refl
padded_no_equals false true text none = rw none refl
padded_no_equals false false text none = rw none refl

-- the person of a name, given the chunks before and after the first comma
abbrev with_commas_of : List (Spanned Chunk) → List (Spanned Chunk) → Person
with_commas_of first second = with_commas first second (cut_at second 44)

words_some : (first : Bool) (words : List (List ℕ)) → 0 < length words → 0 < length (words_at first words)
words_some first [] some = absurd (omega arith)
words_some first (w ∷ ws) some = omega arith

-- a part that is a line of words isn't in the extended format
no_equals : (items : List (List ℕ)) → list_all is_line_item items ≡ true → (before following : Bool)
    → is_in_parts (padded before following (Normal (spaced items))) ≡ false
no_equals items all before following =
    let none : list_any (λ b. b == 61) (spaced items) ≡ false =
    none_of (λ b. b == 61) (spaced items)
    (all_follow is_line_byte (λ b. not (b == 61))
    (λ b line. (and_parts (not (b == 61)) (is_unbroken b) (line_open b line)).0) (spaced items)
    (items_bytes items all)) in
    padded_no_equals before following (spaced items) none

-- if the words of the prefix begin in lower case, and those of the family name in upper case,
-- a name of kept words that is cut before its given name is parsed as the person
with_comma_read : (before following : Bool) (prefix name given : List (List ℕ)) (suffix : List ℕ) (a c : Range ℕ)
    → AllWords is_small_letter prefix → AllWords is_capital_letter name → AllWords is_name_byte given → 0 < length name
    → 0 < length (spaced given)
    → with_comma (empties after_and before ++ (stands a (spaced (prefix ++ name)) ∷ []))
    (stands c (spaced given) ∷ empties before_and following) suffix
    ≡ person (spaced name) (spaced given) (spaced prefix) suffix
with_comma_read before following prefix name given suffix a c small capital any has_name has_given =
    let first = empties after_and before ++ (stands a (spaced (prefix ++ name)) ∷ []) in
    let second = stands c (spaced given) ∷ empties before_and following in
    let small_any = all_any is_small_letter prefix small in
    let capital_any = all_any is_capital_letter name capital in
    let prefix_any : AllWords is_name_byte (prefix ++ name) =
    list_all-append (is_kept_word is_name_byte) prefix name ∙ and_from _ _ small_any capital_any in
    let leading_run = is_text (prefix ++ name) prefix_any in
    let last = is_text given any in
    let apart = words_append true prefix name in
    let xs = words_at true prefix in
    let ys = words_at apart.0 name in
    let words : words_of (letters first) ≡ xs ++ ys =
    ap words_of (letters_text before (spaced (prefix ++ name)) a leading_run)
    ∙ spaced_words_of (prefix ++ name) (items_solid (prefix ++ name) (all_line (prefix ++ name) prefix_any))
    ∙ apart.1 in
    let cuts : before_comma (xs ++ ys) ≡ a_cut (length xs) =
    cut_prefix xs ys (low_words true prefix small) (high_words apart.0 name capital)
    (words_some apart.0 name has_name) in
    let prefix_is : text_of_words (take (length xs) (xs ++ ys)) ≡ spaced prefix =
    ap text_of_words (take_at xs ys (length xs) refl) ∙ spelt_words true prefix small_any in
    let name_is : text_of_words (drop (length xs) (xs ++ ys)) ≡ spaced name =
    ap text_of_words (drop_at xs ys (length xs) refl) ∙ spelt_words apart.0 name capital_any in
    ap
    (λ blank.
    cond blank (at_last_space (encode_utf8_all (formatted_chars first)) suffix)
    (before_comma_person (words_of (letters first)) (trimmed_text second) suffix))
    (not_blank (spaced given) c following last has_given)
    ∙ ap (λ ws. before_comma_person ws (trimmed_text second) suffix) words
    ∙ ap (λ cut. cut_person cut (xs ++ ys) (trimmed_text second) suffix) cuts
    ∙ ap (λ n. person n (trimmed_text second) (text_of_words (take (length xs) (xs ++ ys))) suffix) name_is
    ∙ ap (λ q. person (spaced name) (trimmed_text second) q suffix) prefix_is
    ∙ ap (λ g. person (spaced name) g (spaced prefix) suffix) (shown_text (spaced given) c following last)

-- a line that isn't empty has words
pub some_words : (words : List (List ℕ)) → 0 < length (spaced words) → 0 < length words
some_words [] some = some
some_words (w ∷ ws) some = omega arith

-- the same for a name that is cut at its first comma
after_read : (before following : Bool) (prefix name suffix given : List (List ℕ)) (a c : Range ℕ)
    → AllWords is_small_letter prefix → AllWords is_capital_letter name → AllWords is_name_byte suffix
    → AllWords is_name_byte given → 0 < length name → 0 < length (spaced given)
    → with_commas_of (empties after_and before ++ (stands a (spaced (prefix ++ name)) ∷ []))
    (stands c (trim_start (32 ∷ (suffix_text (spaced suffix) ++ spaced given))) ∷ empties before_and following)
    ≡ person (spaced name) (spaced given) (spaced prefix) (spaced suffix)
after_read before following prefix name [] given a c small capital tail any has_name has_given =
    let last = is_text given any in
    let first = empties after_and before ++ (stands a (spaced (prefix ++ name)) ∷ []) in
    ap (λ t. with_commas_of first (stands c t ∷ empties before_and following)) (after_space (spaced given) last)
    ∙ ap (with_commas first (stands c (spaced given) ∷ empties before_and following))
    (cut_no_comma (spaced given) c before_and following last.no_comma last.same)
    ∙ with_comma_read before following prefix name given [] a c small capital any has_name has_given
after_read before following prefix name ([] ∷ ss) given a c small capital tail any has_name has_given = absurd (false≢true tail)
after_read before following prefix name ((s ∷ t) ∷ ss) given a c small capital tail any has_name has_given =
    let suffix = (s ∷ t) ∷ ss in
    let last = is_text given any in
    let middle = is_text suffix tail in
    let first = empties after_and before ++ (stands a (spaced (prefix ++ name)) ∷ []) in
    let some : (length (spaced suffix) == 0) ≡ false = ne_eqb (suc (length (t ++ after_words ss))) 0 (λ none. omega arith) in
    let long : suffix_text (spaced suffix) ≡ spaced suffix ++ (44 ∷ 32 ∷ []) = rw some refl in
    let whole : suffix_text (spaced suffix) ++ spaced given ≡ spaced suffix ++ (44 ∷ (32 ∷ spaced given)) =
    ap (λ l. l ++ spaced given) long ∙ append_assoc (spaced suffix) (44 ∷ 32 ∷ []) (spaced given) in
    let items = comma suffix ++ given in
    let all : list_all is_line_item items ≡ true =
    list_all-append is_line_item (comma suffix) given
    ∙ and_from _ _ (comma_items suffix (all_line suffix tail)) (all_line given any) in
    let ascii : IsAscii (spaced items) = items_ascii items all in
    let line : suffix_text (spaced suffix) ++ spaced given ≡ spaced items = suffix_line suffix given tail (some_words given has_given) in
    let trimmed : trim_start (32 ∷ (suffix_text (spaced suffix) ++ spaced given)) ≡ spaced suffix ++ (44 ∷ (32 ∷ spaced given)) =
    ap (λ l. trim_start (32 ∷ l)) line
    ∙ start_one (spaced items) (space_small (spaced items) ascii) ascii
    (skip_none (spaced items) (spaced_begins items (items_solid items all))) ∙ sym line ∙ whole in
    let small_whole : IsAscii (spaced suffix ++ (44 ∷ (32 ∷ spaced given))) = subst IsAscii (sym line ∙ whole) ascii in
    let cut : AreHalves (spaced suffix) (32 ∷ spaced given) c =
    halves_at (spaced suffix) (32 ∷ spaced given) c middle.no_comma (chars-IsAscii _ small_whole) middle.spelt
    (encodes-IsAscii (32 ∷ spaced given) (space_small (spaced given) last.ascii)) in
    ap (λ l. with_commas_of first (stands c l ∷ empties before_and following)) trimmed
    ∙ ap (with_commas first (stands c (spaced suffix ++ (44 ∷ (32 ∷ spaced given))) ∷ empties before_and following))
    (cut_first_comma after_and false (spaced suffix) (32 ∷ spaced given) c (empties before_and following) cut)
    ∙ ap
    (λ l.
    with_comma first (stands cut.right l ∷ empties before_and following)
    (trimmed_text (stands cut.left (trim_end (spaced suffix)) ∷ []))) (after_space (spaced given) last)
    ∙ ap
    (λ l.
    with_comma first (stands cut.right (spaced given) ∷ empties before_and following)
    (trimmed_text (stands cut.left l ∷ []))) middle.end
    ∙ ap (with_comma first (stands cut.right (spaced given) ∷ empties before_and following))
    (shown_text (spaced suffix) cut.left false middle)
    ∙ with_comma_read before following prefix name given (spaced suffix) a cut.right small capital any has_name has_given

-- the same for a person's line, as a part of a list
name_read : (before following : Bool) (prefix name suffix given : List (List ℕ)) → AllWords is_small_letter prefix
    → AllWords is_capital_letter name → AllWords is_name_byte suffix → AllWords is_name_byte given → 0 < length name
    → 0 < length (spaced given)
    → person_of (padded before following (Normal (spaced (line_items (prefix ++ name) suffix given))))
    ≡ person (spaced name) (spaced given) (spaced prefix) (spaced suffix)
unfolding person_of
name_read before following prefix name suffix given small capital tail any has_name has_given =
    let prefix_any : AllWords is_name_byte (prefix ++ name) =
    list_all-append (is_kept_word is_name_byte) prefix name
    ∙ and_from _ _ (all_any is_small_letter prefix small) (all_any is_capital_letter name capital) in
    let leading_run = is_text (prefix ++ name) prefix_any in
    let items = line_items (prefix ++ name) suffix given in
    let chunks = padded before following (Normal (spaced items)) in
    let rest = 32 ∷ (suffix_text (spaced suffix) ++ spaced given) in
    let line : spaced items ≡ spaced (prefix ++ name) ++ (44 ∷ rest) =
    line_spelt (prefix ++ name) suffix given (more_some prefix name has_name) tail (some_words given has_given) in
    let all = line_all (prefix ++ name) suffix given prefix_any tail any in
    let small_whole : IsAscii (spaced (prefix ++ name) ++ (44 ∷ rest)) = subst IsAscii line (items_ascii items all) in
    let after = comma suffix ++ given in
    let after_all : list_all is_line_item after ≡ true =
    list_all-append is_line_item (comma suffix) given
    ∙ and_from _ _ (comma_items suffix (all_line suffix tail)) (all_line given any) in
    let small_rest : IsAscii rest =
    subst (λ l. IsAscii (32 ∷ l)) (sym (suffix_line suffix given tail (some_words given has_given)))
    (space_small (spaced after) (items_ascii after after_all)) in
    let cut : AreHalves (spaced (prefix ++ name)) rest no_place =
    halves_at (spaced (prefix ++ name)) rest no_place leading_run.no_comma (chars-IsAscii _ small_whole)
    leading_run.spelt (encodes-IsAscii rest small_rest) in
    ap (λ b. cond b (in_parts chunks) (by_commas chunks)) (no_equals items all before following)
    ∙ ap (cut_by_commas chunks)
    (ap (λ t. cut_at (padded before following (Normal t)) 44) line
    ∙ cut_first_comma after_and before (spaced (prefix ++ name)) rest no_place (empties before_and following)
    cut)
    ∙ ap
    (λ t.
    with_commas_of (empties after_and before ++ (stands cut.left t ∷ []))
    (stands cut.right (trim_start rest) ∷ empties before_and following)) leading_run.end
    ∙ after_read before following prefix name suffix given cut.left cut.right small capital tail any has_name has_given

-- ---- people

-- a kept person consists of its words
as_words : (p : Person) (k : IsKeptPerson p)
    → p ≡ person (spaced k.name.words) (spaced k.given_name.words) (spaced k.prefix.words) (spaced k.suffix.words)
as_words p k =
    ap
    (λ x.
    record {
      name = p.name;
      given_name = p.given_name;
      prefix = p.prefix;
      suffix = p.suffix;
      id = x;
      prefix_initials = p.prefix_initials;
      given_initials = p.given_initials;
      use_prefix = p.use_prefix;
    }) k.no_id
    ∙ ap
    (λ x.
    record {
      name = p.name;
      given_name = p.given_name;
      prefix = p.prefix;
      suffix = p.suffix;
      id = None;
      prefix_initials = x;
      given_initials = p.given_initials;
      use_prefix = p.use_prefix;
    }) k.no_prefix_initials
    ∙ ap
    (λ x.
    record {
      name = p.name;
      given_name = p.given_name;
      prefix = p.prefix;
      suffix = p.suffix;
      id = None;
      prefix_initials = None;
      given_initials = x;
      use_prefix = p.use_prefix;
    }) k.no_given_initials
    ∙ ap
    (λ x.
    record {
      name = p.name;
      given_name = p.given_name;
      prefix = p.prefix;
      suffix = p.suffix;
      id = None;
      prefix_initials = None;
      given_initials = None;
      use_prefix = x;
    }) k.no_use_prefix
    ∙ ap (λ x. person x p.given_name p.prefix p.suffix) k.name.spell
    ∙ ap (λ x. person (spaced k.name.words) x p.prefix p.suffix) k.given_name.spell
    ∙ ap (λ x. person (spaced k.name.words) (spaced k.given_name.words) x p.suffix) k.prefix.spell
    ∙ ap (person (spaced k.name.words) (spaced k.given_name.words) (spaced k.prefix.words)) k.suffix.spell

some_spaced : (text : List ℕ) (words : List (List ℕ)) → text ≡ spaced words → 0 < length text → 0 < length (spaced words)
some_spaced text words is some = omega (arith, ap length is)

-- the words of a kept person's line
line_of : (p : Person) → IsKeptPerson p → List (List ℕ)
line_of p k = line_items (k.prefix.words ++ k.name.words) k.suffix.words k.given_name.words

-- a kept person is written as its line
person_written : (p : Person) (k : IsKeptPerson p) → person_chunks p ≡ normal (spaced (line_of p k)) ∷ []
unfolding line_of
person_written p k =
    ap person_chunks (as_words p k)
    ∙ plain_line k.prefix.words k.name.words k.suffix.words k.given_name.words k.prefix.kept
    (some_words k.name.words (some_spaced p.name k.name.words k.name.spell k.has_name)) k.suffix.kept
    (some_words k.given_name.words (some_spaced p.given_name k.given_name.words k.given_name.spell k.has_given_name))

-- a kept person parses from its line, as a part of a list
person_read : (p : Person) (k : IsKeptPerson p) (before following : Bool)
    → person_of (padded before following (Normal (spaced (line_of p k)))) ≡ p
unfolding line_of
person_read p k before following =
    name_read before following k.prefix.words k.name.words k.suffix.words k.given_name.words k.prefix.kept k.name.kept
    k.suffix.kept k.given_name.kept
    (some_words k.name.words (some_spaced p.name k.name.words k.name.spell k.has_name))
    (some_spaced p.given_name k.given_name.words k.given_name.spell k.has_given_name)
    ∙ sym (as_words p k)

-- a kept person's line is one part of a list
person_part : (p : Person) (k : IsKeptPerson p) → IsPart (Normal (spaced (line_of p k)))
unfolding line_of
person_part p k =
    items_part (line_items (k.prefix.words ++ k.name.words) k.suffix.words k.given_name.words)
    (line_all (k.prefix.words ++ k.name.words) k.suffix.words k.given_name.words
    (list_all-append (is_kept_word is_name_byte) k.prefix.words k.name.words
    ∙ and_from _ _ (all_any is_small_letter k.prefix.words k.prefix.kept)
    (all_any is_capital_letter k.name.words k.name.kept)) k.suffix.kept k.given_name.kept)

-- the chunks of kept people
abbrev lines : (people : List Person) → AllKept people → List Chunk
lines [] all = []
lines (p ∷ people) all = Normal (spaced (line_of p all.0)) ∷ lines people all.1

all_parts : (people : List Person) (all : AllKept people) → AllParts (lines people all)
all_parts [] all = tt
all_parts (p ∷ people) all = (person_part p all.0, all_parts people all.1)

-- kept people after the first one are written as their lines
after_written : (people : List Person) (all : AllKept people) → people_from false people ≡ written_after (lines people all)
after_written [] all = refl
after_written (p ∷ people) all =
    ap (λ l. normal (codes " and ") ∷ (l ++ people_from false people)) (person_written p all.0)
    ∙ ap (λ l. normal (codes " and ") ∷ normal (spaced (line_of p all.0)) ∷ l) (after_written people all.1)

-- the parts of written kept people are parsed as the people
parts_read : (before : Bool) (p : Person) (people : List Person) (k : IsKeptPerson p) (all : AllKept people)
    → map person_of (padded_parts before (Normal (spaced (line_of p k))) (lines people all)) ≡ p ∷ people
parts_read before p [] k all = ap (λ x. x ∷ []) (person_read p k before false)
parts_read before p (next ∷ more) k all =
    ap (λ x. x ∷ map person_of (padded_parts true (Normal (spaced (line_of next all.0))) (lines more all.1))) (person_read p k before true)
    ∙ ap (λ l. p ∷ l) (parts_read true next more all.0 all.1)

-- kept people parse from their written form
pub people_survive : (people : List Person) → ArePeople people → people_of (people_chunks people) ≡ people
people_survive [] are = absurd (omega (arith, are.some))
people_survive (p ∷ people) are =
    ap (λ l. people_of (l ++ people_from false people)) (person_written p are.all.0)
    ∙ ap (λ l. people_of (normal (spaced (line_of p are.all.0)) ∷ l)) (after_written people are.all.1)
    ∙ ap (map person_of)
    (and_list_written (Normal (spaced (line_of p are.all.0))) (lines people are.all.1) (person_part p are.all.0)
    (all_parts people are.all.1))
    ∙ parts_read false p people are.all.0 are.all.1

-- the same law, with an optional value as for other types
pub people_survive_read : (people : List Person) → ArePeople people → Some (people_of (people_chunks people)) ≡ Some people
people_survive_read people are = ap (λ x. Some x) (people_survive people are)
