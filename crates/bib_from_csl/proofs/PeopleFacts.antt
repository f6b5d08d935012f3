-- Plain names of people parse from their written form.
use Rattle.std.proofs.Common.{◌≡◌, ℕ, suc, Bool, true, false, cond, List, [], ◌∷◌, ◌++◌, length, map, refl, sym, ap, ap₂, ◌∙◌, arith, get_or}
use Rattle.std.proofs.lemmas.List.{append-nil}
use Rattle.std.specs.Prelude.{not, ◌&&◌, ◌||◌, ◌==◌, bytes_eq, codes, encode_utf8, encode_utf8_all, unwrap_or}
use Rattle.std.specs.List.{flat_map, list_all, list_any}
use Rattle.std.specs.Str.{chars, IsUtf8}
use Rattle.std.proofs.lemmas.Bool.{and_parts, false≢true, ne_eqb, or_parts}
use Rattle.std.proofs.lemmas.Slice.Eq.{bytes_eq-Decides}
use Rattle.std.proofs.lemmas.Str.{encodes-chars}
use Rattle.bib_chunks.specs.declared.chunk.Chunk.{Chunk}
use Rattle.bib_chunks.specs.declared.chunk.Chunk.TheVariants.{Normal, Verbatim}
use Rattle.bib_chunks.specs.Cuts.{and_list}
use Rattle.bib_chunks.specs.Formatted.{space_after}
use Rattle.bib_chunks.specs.Values.{Value, nowhere, text}
use Rattle.bib_people.specs.declared.person.Person.{Person}
use Rattle.bib_people.specs.Names.{person_of}
use Rattle.bib_people.specs.People.{person_chunks}
use Rattle.bib_people.specs.Kept.{is_capital_letter, is_kept_word, is_name_byte, is_small_letter, spaced, IsKeptPerson}
use Rattle.bib_people.proofs.AndLists.{AllParts, IsPart, and_list_written, empties, before_and, formatted_empties, padded, padded_parts, written_after}
use Rattle.bib_people.proofs.ByteFacts.{all_follow, none_of}
use Rattle.bib_people.proofs.LineFacts.{AllWords, all_any}
use Rattle.bib_people.proofs.SpacedFacts.{spaced_all}
use Rattle.bib_people.proofs.TextFacts.{is_text}
use Rattle.bib_people.proofs.SurviveFacts.{people_survive}
use Rattle.bib_csl.specs.declared.item.Name.{Name}
use Rattle.bib_csl.specs.declared.item.Name.TheVariants.{Literal, Parts}
use Rattle.bib_csl.specs.declared.item.NameParts.{NameParts}
use Rattle.bib_csl.specs.Markup.{loosen, loosened}
use Rattle.bib_csl.specs.People.{is_braced, is_literal, says_nothing, name_said, names_listed, parts_with, unless_empty, loosened_name}
use Rattle.bib_from_csl.specs.PlainPeople.{ArePlainNames, IsPlainLiteral, IsPlainName, IsPlainParts}
use Rattle.bib_from_csl.specs.WrittenPeople.{name_chunks, names_chunks, names_from, particle}
use Rattle.bib_from_csl.proofs.PlainFacts.{name_free, kept_parts, text_of_parts, parts_written, parts_part, named_person, kept_person, person_is, line_comma, line_shown}

-- the chunks of the rest of a list, with a separator before them
abbrev separator : Value → Value
separator l = nowhere (Normal (codes " and ")) ∷ l

-- a kept person that is written as one normal chunk is parsed at each place in a list of three; the next lemma is on a list of one
three_read : (q : Person) (t : List ℕ) → IsKeptPerson q → IsPart (Normal t) → person_chunks q ≡ nowhere (Normal t) ∷ []
    → map person_of (padded_parts false (Normal t) (Normal t ∷ Normal t ∷ [])) ≡ q ∷ q ∷ q ∷ []
three_read q t kept part is =
    ap (map person_of) (sym (and_list_written (Normal t) (Normal t ∷ Normal t ∷ []) part (part, (part, tt))))
    ∙ ap (λ l. map person_of (and_list (l ++ (separator l ++ (separator l ++ []))))) (sym is)
    ∙ people_survive (q ∷ q ∷ q ∷ []) (record { some = omega arith; all = (kept, (kept, (kept, tt))) })

one_read : (q : Person) (t : List ℕ) → IsKeptPerson q → IsPart (Normal t) → person_chunks q ≡ nowhere (Normal t) ∷ []
    → map person_of (padded_parts false (Normal t) []) ≡ q ∷ []
one_read q t kept part is =
    ap (map person_of) (sym (and_list_written (Normal t) [] part tt))
    ∙ ap (λ l. map person_of (and_list (l ++ []))) (sym is)
    ∙ people_survive (q ∷ []) (record { some = omega arith; all = (kept, tt) })

person_read : (q : Person) (t : List ℕ) → IsKeptPerson q → IsPart (Normal t) → person_chunks q ≡ nowhere (Normal t) ∷ []
    → (before following : Bool)
    → person_of (padded before following (Normal t)) ≡ q
person_read q t kept part is false false = ap (λ l. get_or l 0 q) (one_read q t kept part is)
person_read q t kept part is false true = ap (λ l. get_or l 0 q) (three_read q t kept part is)
person_read q t kept part is true true = ap (λ l. get_or l 1 q) (three_read q t kept part is)
person_read q t kept part is true false = ap (λ l. get_or l 2 q) (three_read q t kept part is)

shown_verbatim : (t : List ℕ) (before following : Bool) → IsUtf8 t → text (padded before following (Verbatim t)) ≡ t
unfolding chars
shown_verbatim t false following utf8 =
    ap encode_utf8_all
    (ap (λ b. chars t ++ b) (formatted_empties before_and (space_after false (Verbatim t)) following)
    ∙ append-nil (chars t)) ∙ encodes-chars t utf8
shown_verbatim t true following utf8 =
    ap encode_utf8_all
    (ap (λ b. chars t ++ b) (formatted_empties before_and (space_after false (Verbatim t)) following)
    ∙ append-nil (chars t)) ∙ encodes-chars t utf8

-- a text without a tilde is unchanged by `loosened`
loosened_same : (cs : List ℕ) → list_any (λ c. c == 126) cs ≡ false → loosened cs ≡ encode_utf8_all cs
unfolding loosen
loosened_same [] none = refl
loosened_same (c ∷ cs) none =
    let both = or_parts (c == 126) (list_any (λ d. d == 126) cs) none in
    ap₂ (λ a b. a ++ b) (ap (λ b. cond b (codes " ") (encode_utf8 c)) both.0) (loosened_same cs both.1)

no_tilde : (word : List ℕ) → is_kept_word is_name_byte word ≡ true → list_all (λ b. not (b == 126)) word ≡ true
no_tilde word kept =
    all_follow is_name_byte (λ b. not (b == 126))
    (λ b name. (and_parts (not (b == 32)) (not (b == 126)) (name_free b name)).1) word
    (kept_parts is_name_byte word kept).bytes

loosened_words : (words : List (List ℕ)) → AllWords is_name_byte words → loosened_name (spaced words) ≡ spaced words
loosened_words words all =
    let is = is_text words all in
    ap loosened is.same
    ∙ loosened_same (spaced words)
    (none_of (λ c. c == 126) (spaced words)
    (spaced_all (λ b. not (b == 126)) refl words
    (all_follow (is_kept_word is_name_byte) (λ w. list_all (λ b. not (b == 126)) w) no_tilde words all)))
    ∙ is.spelt

same_family : (uses : Bool) (p : NameParts) (k : IsPlainParts uses p) → loosened_name p.family ≡ p.family
same_family uses p k =
    ap loosened_name k.family.spell ∙ loosened_words k.family.words (all_any is_capital_letter k.family.words k.family.kept)
    ∙ sym k.family.spell

same_given : (uses : Bool) (p : NameParts) (k : IsPlainParts uses p) → loosened_name p.given ≡ p.given
same_given uses p k = ap loosened_name k.given_name.spell ∙ loosened_words k.given_name.words k.given_name.kept ∙ sym k.given_name.spell

same_suffix : (uses : Bool) (p : NameParts) (k : IsPlainParts uses p) → loosened_name p.suffix ≡ p.suffix
same_suffix uses p k = ap loosened_name k.suffix.spell ∙ loosened_words k.suffix.words k.suffix.kept ∙ sym k.suffix.spell

same_prefix : (uses : Bool) (p : NameParts) (k : IsPlainParts uses p) → loosened_name (particle uses p) ≡ particle uses p
same_prefix uses p k =
    ap loosened_name k.prefix.spell ∙ loosened_words k.prefix.words (all_any is_small_letter k.prefix.words k.prefix.kept)
    ∙ sym k.prefix.spell

parts_of_person : (uses : Bool) (p : NameParts) → IsPlainParts uses p → parts_with uses (named_person uses p) ≡ p
unfolding parts_with
parts_of_person true p k =
    ap
    (λ x.
    record {
      family = x;
      given = loosened_name p.given;
      suffix = loosened_name p.suffix;
      dropping_particle = [];
      non_dropping_particle = loosened_name p.non_dropping_particle;
    }) (same_family true p k)
    ∙ ap
    (λ x.
    record {
      family = p.family;
      given = x;
      suffix = loosened_name p.suffix;
      dropping_particle = [];
      non_dropping_particle = loosened_name p.non_dropping_particle;
    }) (same_given true p k)
    ∙ ap
    (λ x.
    record {
      family = p.family;
      given = p.given;
      suffix = x;
      dropping_particle = [];
      non_dropping_particle = loosened_name p.non_dropping_particle;
    }) (same_suffix true p k)
    ∙ ap
    (λ x.
    record {
      family = p.family;
      given = p.given;
      suffix = p.suffix;
      dropping_particle = [];
      non_dropping_particle = x;
    }) (same_prefix true p k)
    ∙ ap
    (λ x.
    record {
      family = p.family;
      given = p.given;
      suffix = p.suffix;
      dropping_particle = x;
      non_dropping_particle = p.non_dropping_particle;
    }) (sym k.no_other)
parts_of_person false p k =
    ap
    (λ x.
    record {
      family = x;
      given = loosened_name p.given;
      suffix = loosened_name p.suffix;
      dropping_particle = loosened_name p.dropping_particle;
      non_dropping_particle = [];
    }) (same_family false p k)
    ∙ ap
    (λ x.
    record {
      family = p.family;
      given = x;
      suffix = loosened_name p.suffix;
      dropping_particle = loosened_name p.dropping_particle;
      non_dropping_particle = [];
    }) (same_given false p k)
    ∙ ap
    (λ x.
    record {
      family = p.family;
      given = p.given;
      suffix = x;
      dropping_particle = loosened_name p.dropping_particle;
      non_dropping_particle = [];
    }) (same_suffix false p k)
    ∙ ap
    (λ x.
    record {
      family = p.family;
      given = p.given;
      suffix = p.suffix;
      dropping_particle = x;
      non_dropping_particle = [];
    }) (same_prefix false p k)
    ∙ ap
    (λ x.
    record {
      family = p.family;
      given = p.given;
      suffix = p.suffix;
      dropping_particle = p.dropping_particle;
      non_dropping_particle = x;
    }) (sym k.no_other)

not_others : (t : List ℕ) → list_any (λ b. b == 44) t ≡ true → bytes_eq t (codes "others") ≡ false
not_others t comma = of (bytes_eq t (codes "others")) refl where
  of : (b : Bool) → bytes_eq t (codes "others") ≡ b → bytes_eq t (codes "others") ≡ false
  of true is = absurd (false≢true (sym (ap (list_any (λ b. b == 44)) ((bytes_eq-Decides t (codes "others")).0 is)) ∙ comma))
  of false is = is

unbraced : (t : List ℕ) (before following : Bool) → (length t == 0) ≡ false
    → list_all (λ c. is_braced c.v) (padded before following (Normal t)) ≡ false
unbraced t false following some = ap (λ b. b && list_all (λ c. is_braced c.v) (empties before_and following)) some
unbraced t true following some = ap (λ b. b && list_all (λ c. is_braced c.v) (empties before_and following)) some

no_literal : (uses : Bool) (p : NameParts) (k : IsPlainParts uses p) (before following : Bool)
    → is_literal (padded before following (Normal (text_of_parts uses p k))) ≡ false
unfolding is_literal
no_literal uses p k before following =
    ap₂ (λ a b. a || b) (unbraced (text_of_parts uses p k) before following (filled (text_of_parts uses p k) (line_comma uses p k)))
    (ap (λ t. bytes_eq t (codes "others")) (line_shown uses p k before following)
    ∙ not_others (text_of_parts uses p k) (line_comma uses p k)) where
      filled : (t : List ℕ) → list_any (λ b. b == 44) t ≡ true → (length t == 0) ≡ false
      filled [] comma = absurd (false≢true comma)
      filled (b ∷ bs) comma = ne_eqb (suc (length bs)) 0 (λ none. omega arith)

parts_said : (uses : Bool) (p : NameParts) (k : IsPlainParts uses p) (before following : Bool)
    → name_said uses (padded before following (Normal (text_of_parts uses p k))) ≡ Parts p
unfolding name_said
parts_said uses p k before following =
    let chunks = padded before following (Normal (text_of_parts uses p k)) in
    ap
    (λ b.
    cond b (Literal (loosened_name (text chunks)))
    (Parts (parts_with (unwrap_or (person_of chunks).use_prefix uses) (person_of chunks))))
    (no_literal uses p k before following)
    ∙ ap (λ q. Parts (parts_with (unwrap_or q.use_prefix uses) q))
    (person_read (named_person uses p) (text_of_parts uses p k) (kept_person uses p k) (parts_part uses p k)
    (person_is uses p k) before following)
    ∙ ap Parts (parts_of_person uses p k)

says_something : (uses : Bool) (p : NameParts) → IsPlainParts uses p → unless_empty (Parts p) ≡ Parts p ∷ []
unfolding unless_empty says_nothing
says_something uses p k =
    ap
    (λ b.
    cond
    (b
    &&
    ((length p.given == 0)
    &&
    ((length p.suffix == 0)
    && ((length p.dropping_particle == 0) && (length p.non_dropping_particle == 0)))))
    [] (Parts p ∷ [])) (ne_eqb (length p.family) 0 (λ none. omega (arith, k.has_family, none)))

-- one verbatim chunk, with or without empty chunks around it, is parsed as a name without parts
braced_whole : (t : List ℕ) (before following : Bool) → is_literal (padded before following (Verbatim t)) ≡ true
unfolding is_literal
braced_whole t false false = refl
braced_whole t false true = refl
braced_whole t true false = refl
braced_whole t true true = refl

literal_said : (uses : Bool) (t : List ℕ) → IsPlainLiteral t → (before following : Bool)
    → name_said uses (padded before following (Verbatim t)) ≡ Literal t
unfolding name_said
literal_said uses t k before following =
    let chunks = padded before following (Verbatim t) in
    ap
    (λ b.
    cond b (Literal (loosened_name (text chunks)))
    (Parts (parts_with (unwrap_or (person_of chunks).use_prefix uses) (person_of chunks))))
    (braced_whole t before following)
    ∙ ap (λ x. Literal (loosened_name x)) (shown_verbatim t before following k.utf8)
    ∙ ap Literal (loosened_same (chars t) k.untied ∙ encodes-chars t k.utf8)

literal_something : (t : List ℕ) → IsPlainLiteral t → unless_empty (Literal t) ≡ Literal t ∷ []
unfolding unless_empty says_nothing
literal_something t k = ap (λ b. cond b [] (Literal t ∷ [])) (ne_eqb (length t) 0 (λ none. omega (arith, k.some, none)))

-- the one chunk as which a plain name is written
chunk_of : (uses : Bool) (name : Name) → IsPlainName uses name → Chunk
chunk_of uses (Literal t) k = Verbatim t
chunk_of uses (Parts p) k = Normal (text_of_parts uses p k)

name_part : (uses : Bool) (name : Name) (k : IsPlainName uses name) → IsPart (chunk_of uses name k)
unfolding chunk_of
name_part uses (Literal t) k = record { one = refl; ends = λ first last. refl }
name_part uses (Parts p) k = parts_part uses p k

name_written : (uses : Bool) (name : Name) (k : IsPlainName uses name) → name_chunks uses name ≡ nowhere (chunk_of uses name k) ∷ []
unfolding chunk_of
name_written uses (Literal t) k = ap (λ b. cond b (nowhere (Normal (codes "others")) ∷ []) (nowhere (Verbatim t) ∷ [])) k.other
name_written uses (Parts p) k = parts_written uses p k

name_read : (uses : Bool) (name : Name) (k : IsPlainName uses name) (before following : Bool)
    → unless_empty (name_said uses (padded before following (chunk_of uses name k))) ≡ name ∷ []
unfolding chunk_of
name_read uses (Literal t) k before following = ap unless_empty (literal_said uses t k before following) ∙ literal_something t k
name_read uses (Parts p) k before following = ap unless_empty (parts_said uses p k before following) ∙ says_something uses p k

-- the chunks of a list of plain names
abbrev chunks_of : (uses : Bool) (names : List Name) → ArePlainNames uses names → List Chunk
chunks_of uses [] all = []
chunks_of uses (name ∷ names) all = chunk_of uses name all.0 ∷ chunks_of uses names all.1

all_parts : (uses : Bool) (names : List Name) (all : ArePlainNames uses names) → AllParts (chunks_of uses names all)
all_parts uses [] all = tt
all_parts uses (name ∷ names) all = (name_part uses name all.0, all_parts uses names all.1)

more_written : (uses : Bool) (names : List Name) (all : ArePlainNames uses names)
    → names_from uses false names ≡ written_after (chunks_of uses names all)
more_written uses [] all = refl
more_written uses (name ∷ names) all =
    ap (λ l. separator (l ++ names_from uses false names)) (name_written uses name all.0)
    ∙ ap (λ l. separator (nowhere (chunk_of uses name all.0) ∷ l)) (more_written uses names all.1)

all_read : (uses : Bool) (before : Bool) (name : Name) (names : List Name) (k : IsPlainName uses name) (all : ArePlainNames uses names)
    → flat_map (λ part. unless_empty (name_said uses part))
    (padded_parts before (chunk_of uses name k) (chunks_of uses names all)) ≡ name ∷ names
all_read uses before name [] k all = ap (λ l. l ++ []) (name_read uses name k before false)
all_read uses before name (next ∷ more) k all =
    ap₂ (λ a b. a ++ b) (name_read uses name k before true) (all_read uses true next more all.0 all.1)

-- plain names, at least one, parse from their written form
pub plain_names_read : (uses : Bool) (name : Name) (names : List Name) → ArePlainNames uses (name ∷ names)
    → names_listed uses (names_chunks uses (name ∷ names)) ≡ name ∷ names
unfolding names_listed
plain_names_read uses name names all =
    let read = λ (part : Value). unless_empty (name_said uses part) in
    ap (λ l. flat_map read (and_list (l ++ names_from uses false names))) (name_written uses name all.0)
    ∙ ap (λ l. flat_map read (and_list (nowhere (chunk_of uses name all.0) ∷ l))) (more_written uses names all.1)
    ∙ ap (flat_map read)
    (and_list_written (chunk_of uses name all.0) (chunks_of uses names all.1) (name_part uses name all.0)
    (all_parts uses names all.1))
    ∙ all_read uses false name names all.0 all.1
