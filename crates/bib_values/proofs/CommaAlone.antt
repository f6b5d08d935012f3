-- Only kept lists of texts parse from their written form.
use Rattle.std.proofs.Common.{◌≡◌, ℕ, Bool, true, false, not, ◌&&◌, List, [], ◌∷◌, ◌++◌, map, refl, sym, ap, ◌∙◌, ⊎_elim, length, arith, get_or, drop, if◌then◌else◌}
use Rattle.std.specs.Prelude.{codes, ◌==◌, ◌||◌}
use Rattle.std.specs.List.{flat_map, list_all, list_any, AllByRecursion}
use Rattle.std.specs.Str.{IsUtf8, chars}
use Rattle.std.proofs.Math.Utf8.{scalar, scalars}
use Rattle.std.proofs.lemmas.Bool.{and_parts, and_from, cases_Bool, false≢true, or_parts}
use Rattle.std.proofs.lemmas.Str.{scalars-chars, chars-encodes}
use Rattle.bib_chunks.specs.declared.chunk.Chunk.{Chunk}
use Rattle.bib_chunks.specs.declared.chunk.Chunk.TheVariants.{Normal, Verbatim, Math}
use Rattle.bib_chunks.specs.Styled.{Atom, atoms_of, styled}
use Rattle.bib_chunks.specs.Formatted.{is_break, char_on_line, flowing, ends_in_space, formatted_chunk, formatted_chars_after, formatted_chars, space_after}
use Rattle.bib_chunks.specs.Cuts.{comma_list}
use Rattle.bib_chunks.specs.Parted.{AreTexts, IsList, HoldsNoComma, is_normal_comma}
use Rattle.bib_chunks.specs.Parted.IsList.{last, next}
use Rattle.bib_chunks.proofs.PartFacts.{comma_list_no_comma}
use Rattle.bib_chunks.proofs.WholeFacts.{comma_list_whole}
use Rattle.bib_chunks.specs.Values.{Value, text, alone}
use Rattle.bib_values.specs.Lists.{strings_read, strings_written, is_plain_in_list, IsPlain, StringsKept}
use Rattle.bib_chunks.specs.Separated.{after_separator}

-- if all elements of two lists pass a test, so do all elements of their concatenation
all-append : {A : Type 0} (test : A → Bool) (xs ys : List A) → list_all test xs ≡ true → list_all test ys ≡ true
    → list_all test (xs ++ ys) ≡ true
all-append test [] ys one two = two
all-append test (x ∷ xs) ys one two =
    let parts = and_parts (test x) (list_all test xs) one in and_from _ _ parts.0 (all-append test xs ys parts.1 two)

all-parts : {A : Type 0} (test : A → Bool) (xs ys : List A) → list_all test (xs ++ ys) ≡ true
    → (list_all test xs ≡ true) × (list_all test ys ≡ true)
all-parts test [] ys all = (refl, all)
all-parts test (x ∷ xs) ys all =
    let parts = and_parts (test x) (list_all test (xs ++ ys)) all in
    let rest = all-parts test xs ys parts.1 in
    (and_from _ _ parts.0 rest.0, rest.1)

-- whether an atom is normal and its character is valid
abbrev pub is_normal_scalar : Atom → Bool
is_normal_scalar (Atom.normal c) = scalar c
is_normal_scalar (Atom.verbatim c) = false
is_normal_scalar (Atom.math text) = false

-- whether an atom is normal and its character is valid and no comma
abbrev pub is_letter : Atom → Bool
is_letter (Atom.normal c) = scalar c && not (c == 44)
is_letter (Atom.verbatim c) = false
is_letter (Atom.math text) = false

letter : (atom : Atom) → is_normal_scalar atom ≡ true → is_normal_comma atom ≡ false → is_letter atom ≡ true
letter (Atom.normal c) is other = and_from _ _ is (ap not other)
letter (Atom.verbatim c) is other = is
letter (Atom.math text) is other = is

-- normal atoms with valid characters and without a comma pass `is_letter`
letters : (atoms : List Atom) → list_all is_normal_scalar atoms ≡ true → list_any is_normal_comma atoms ≡ false
    → list_all is_letter atoms ≡ true
letters [] all none = refl
letters (atom ∷ atoms) all none =
    let parts = and_parts (is_normal_scalar atom) (list_all is_normal_scalar atoms) all in
    let others = or_parts (is_normal_comma atom) (list_any is_normal_comma atoms) none in
    and_from _ _ (letter atom parts.0 others.0) (letters atoms parts.1 others.1)

-- if all atoms of a list pass a test, so do all atoms of each of its parts
parts_all : (test : Atom → Bool) {separator : List Atom} {parts : List (List Atom)} {atoms : List Atom}
    → IsList separator parts atoms → list_all test atoms ≡ true
    → AllByRecursion (λ part. list_all test part ≡ true) parts
parts_all test last all = (all, tt)
parts_all test {separator = separator} {parts = part ∷ parts} (next left right white blank rest) all =
    let one = all-parts test part _ all in
    let two = all-parts test left _ one.1 in
    let three = all-parts test separator _ two.1 in
    let four = all-parts test right _ three.1 in
    (one.0, parts_all test rest four.1)

-- a valid character that is neither a comma nor a line break
abbrev pub stays : ℕ → Bool
stays c = scalar c && is_plain_in_list c

broken_stays : (space : Bool) → list_all stays (if space then [] else 32 ∷ []) ≡ true
broken_stays true = refl
broken_stays false = refl

unbroken_stays : (space : Bool) (c : ℕ) → (scalar c && not (c == 44)) ≡ true → list_all stays (char_on_line space c) ≡ true
unbroken_stays space c is = ⊎_elim (λ yes. rw yes (broken_stays space)) goes (cases_Bool (is_break c))
  where
    goes : is_break c ≡ false → list_all stays (char_on_line space c) ≡ true
    goes flows =
        let parts = and_parts (scalar c) (not (c == 44)) is in
        rw flows (and_from _ _ (and_from (scalar c) _ parts.0 (and_from _ _ parts.1 (ap not flows))) refl)

-- valid characters other than commas, put on one line, are valid and neither a comma nor a line break
flowing_stays : (space : Bool) (cs : List ℕ) → list_all is_letter (map Atom.normal cs) ≡ true → list_all stays (flowing space cs) ≡ true
flowing_stays space [] all = refl
flowing_stays space (c ∷ cs) all =
    let parts = and_parts (scalar c && not (c == 44)) (list_all is_letter (map Atom.normal cs)) all in
    all-append stays (char_on_line space c) _ (unbroken_stays space c parts.0)
    (flowing_stays (ends_in_space space (char_on_line space c)) cs parts.1)

no_verbatim : (cs : List ℕ) → list_all is_letter (map Atom.verbatim cs) ≡ true → list_all stays cs ≡ true
no_verbatim [] all = refl
no_verbatim (c ∷ cs) all = absurd (false≢true all)

chunk_stays : (space : Bool) (v : Chunk) → list_all is_letter (atoms_of v) ≡ true
    → list_all stays (formatted_chunk (λ cs. cs) space v) ≡ true
chunk_stays space (Normal t) all = flowing_stays space (chars t) all
chunk_stays space (Verbatim t) all = no_verbatim (chars t) all
chunk_stays space (Math t) all = absurd (false≢true all)

-- the characters of a part's formatted text pass `stays` if each atom of the part passes `is_letter`
part_stays : (space : Bool) (part : Value) → list_all is_letter (styled part) ≡ true
    → list_all stays (formatted_chars_after space part) ≡ true
part_stays space [] all = refl
part_stays space (c ∷ part) all =
    let both = all-parts is_letter (atoms_of c.v) (styled part) all in
    all-append stays (formatted_chunk (λ cs. cs) space c.v) _ (chunk_stays space c.v both.0)
    (part_stays (space_after space c.v) part both.1)

-- characters that pass `stays` are valid, and plain in a comma list
staying : (cs : List ℕ) → list_all stays cs ≡ true → (scalars cs ≡ true) × (list_all is_plain_in_list cs ≡ true)
staying [] all = (refl, refl)
staying (c ∷ cs) all =
    let parts = and_parts (stays c) (list_all stays cs) all in
    let one = and_parts (scalar c) (is_plain_in_list c) parts.0 in
    let rest = staying cs parts.1 in
    (and_from _ _ one.0 rest.0, and_from _ _ one.1 rest.1)

-- the text of a part of normal atoms with valid characters, none of them a comma, is plain
part_plain : (part : Value) (t : List ℕ) → IsUtf8 t → text part ≡ t → list_all is_normal_scalar (styled part) ≡ true
    → HoldsNoComma part → IsPlain t
part_plain part t utf8 is all none =
    let both = staying (formatted_chars part) (part_stays false part (letters (styled part) all none)) in
    record {
      utf8 = utf8;
      plain =
          ap (λ u. list_all is_plain_in_list (chars u)) (sym is)
          ∙ ap (list_all is_plain_in_list) (chars-encodes (formatted_chars part) both.0) ∙ both.1;
    }

-- the comma is UTF-8
comma_text : IsUtf8 (codes ",")
unfolding lib.Utf8.encode
comma_text = (44 ∷ [], (refl, refl))

-- the chunks of written texts are UTF-8
written_texts : (texts : List (List ℕ)) → AllByRecursion IsUtf8 texts
    → AreTexts (flat_map (after_separator (codes ",")) (map (λ t. alone (Normal t)) texts))
written_texts [] utf8 = tt
written_texts (t ∷ texts) utf8 = (comma_text, (utf8.0, written_texts texts utf8.1))

scalar_atoms : (cs : List ℕ) → scalars cs ≡ true → list_all is_normal_scalar (map Atom.normal cs) ≡ true
scalar_atoms [] all = refl
scalar_atoms (c ∷ cs) all = let parts = and_parts (scalar c) (scalars cs) all in and_from _ _ parts.0 (scalar_atoms cs parts.1)

-- the atoms of written texts are normal, with valid characters
written_normal : (texts : List (List ℕ)) → AllByRecursion IsUtf8 texts
    → list_all is_normal_scalar (styled (flat_map (after_separator (codes ",")) (map (λ t. alone (Normal t)) texts)))
    ≡ true
unfolding chars
written_normal [] utf8 = refl
written_normal (t ∷ texts) utf8 =
    all-append is_normal_scalar (map Atom.normal (chars t)) _ (scalar_atoms (chars t) (scalars-chars t utf8.0))
    (written_normal texts utf8.1)

-- the texts of parts of normal atoms with valid characters, none of them a comma, are plain
all_plain : (parts : List Value) (texts : List (List ℕ)) → AllByRecursion IsUtf8 texts → map text parts ≡ texts
    → AllByRecursion (λ part. list_all is_normal_scalar part ≡ true) (map styled parts)
    → AllByRecursion HoldsNoComma parts → AllByRecursion IsPlain texts
all_plain [] [] utf8 same all none = tt
all_plain [] (t ∷ texts) utf8 same all none = absurd (omega (arith, ap length same))
all_plain (part ∷ parts) [] utf8 same all none = absurd (omega (arith, ap length same))
all_plain (part ∷ parts) (t ∷ texts) utf8 same all none =
    (part_plain part t utf8.0 (ap (λ l. get_or l 0 []) same) all.0 none.0, all_plain parts texts utf8.1 (ap (drop 1) same) all.1 none.1)

-- a list of UTF-8 texts that parses from its written form is kept
pub kept_alone : (texts : List (List ℕ)) → AllByRecursion IsUtf8 texts → strings_read (strings_written texts) ≡ texts → StringsKept texts
unfolding strings_read
kept_alone [] utf8 same = absurd (omega (arith, ap length same))
kept_alone (t ∷ texts) utf8 same =
    let written = strings_written (t ∷ texts) in
    let are_texts : AreTexts written = (utf8.0, written_texts texts utf8.1) in
    let normal : list_all is_normal_scalar (styled written) ≡ true =
    all-append is_normal_scalar (map Atom.normal (chars t)) _ (scalar_atoms (chars t) (scalars-chars t utf8.0))
    (written_normal texts utf8.1) in (
      omega arith,
      all_plain (comma_list written) (t ∷ texts) utf8 same
          (parts_all is_normal_scalar (comma_list_whole written are_texts) normal)
          (comma_list_no_comma written are_texts),
    )
