-- The written pages of kept ranges are parsed as these ranges, and converted back to the same text.
use Rattle.std.proofs.Common.{◌≡◌, ℕ, ◌+◌, ◌<◌, ◌^◌, Bool, true, false, cond, List, [], ◌∷◌, ◌++◌, length, map, refl, sym, ap, ◌∙◌, subst, arith, append_assoc, append-nil, Some}
use Rattle.std.specs.Prelude.{codes, ◌==◌, ◌||◌, encode_utf8, encode_utf8_all}
use Rattle.std.specs.List.{list_all, AllByRecursion, slice_split, onto_first}
use Rattle.std.specs.declared.ops.Range.{Range}
use Rattle.std.specs.Char.{is_ascii_digit, is_whitespace}
use Rattle.std.specs.Fmt.{decimal}
use Rattle.std.specs.Str.{chars, NonePass, trim_start, trim_end, skip_leading_whitespace, drop_trailing_whitespace}
use Rattle.std.proofs.Math.Utf8.{scalar, scalars}
use Rattle.std.proofs.lemmas.Bool.{and_from, and_parts, cond-false, eqb-true}
use Rattle.std.proofs.lemmas.Bool.Decides.{nat_tests}
use Rattle.std.proofs.lemmas.Fmt.{decimal_is_IsNumeral}
use Rattle.std.proofs.lemmas.List.Folds.{list_all-append}
use Rattle.std.proofs.lemmas.List.Splits.{slice_split-cons_yes, slice_split-cons_no}
use Rattle.std.proofs.lemmas.Str.{chars-encodes, encodes-append, encodes-IsAscii}
use Rattle.bib_text.specs.declared.spanned.Spanned.{Spanned}
use Rattle.bib_text.proofs.ListFacts.{passed_weaker}
use Rattle.bib_chunks.specs.declared.chunk.Chunk.{Chunk}
use Rattle.bib_chunks.specs.declared.chunk.Chunk.TheVariants.{Normal}
use Rattle.bib_chunks.specs.Cuts.{between_commas, chunk_part, comma_list, further, joined_parts, piece, pieces_between, with_span, trimmed_end}
use Rattle.bib_chunks.specs.Formatted.{flowing, formatted_chars, is_unbroken}
use Rattle.bib_chunks.specs.Values.{Value, alone, text}
use Rattle.bib_chunks.proofs.CutFacts.{split_none}
use Rattle.bib_chunks.proofs.SeparatedFacts.{no_place}
use Rattle.bib_chunks.proofs.ValueFacts.{flowing_whole, is_simple, simple_ascii}
use Rattle.bib_values.specs.Ranges.{EndsRange, IsNumber, RangeKept, RangesKept, is_dash, all_of, range_of, ranges_read, with_first}
use Rattle.bib_values.specs.Ranges.EndsRange.{lone, dashed}
use Rattle.bib_values.proofs.RangeGrammar.{range_read_of}
use Rattle.bib_csl.specs.Numbers.{follows_dash_after, page_sign, pages, pages_from, pages_text}
use Rattle.bib_from_csl.specs.PlainPages.{pages_after, pages_of}
use Rattle.bib_csl.specs.Texts.{joined}
use Rattle.bib_values.proofs.RangeLaws.{decimal_digits}

-- ---- the characters of pages

-- a digit or an en dash
abbrev is_of_page : ℕ → Bool
is_of_page c = is_ascii_digit c || c == 8211

of_page_white : (c : ℕ) → is_of_page c ≡ true → is_whitespace c ≡ false
of_page_white c is = grind (arith, nat_tests)

of_page_comma : (c : ℕ) → is_of_page c ≡ true → (c == 44) ≡ false
of_page_comma c is = grind (arith, nat_tests)

of_page_goes : (c : ℕ) → is_of_page c ≡ true → is_unbroken c ≡ true
of_page_goes c is = grind (arith, nat_tests)

of_page_scalar : (c : ℕ) → is_of_page c ≡ true → scalar c ≡ true
of_page_scalar c is = grind (arith, nat_tests)

digit_of_page : (c : ℕ) → is_ascii_digit c ≡ true → is_of_page c ≡ true
digit_of_page c is = grind (arith, nat_tests)

digit_no_dash : (c : ℕ) → is_ascii_digit c ≡ true → is_dash c ≡ false
digit_no_dash c is = grind (arith, nat_tests)

digit_simple : (c : ℕ) → is_ascii_digit c ≡ true → is_simple c ≡ true
digit_simple c is = grind (arith, nat_tests)

number_decimal : (n : ℕ) → n < 2 ^ 32 → IsNumber (decimal n) n
number_decimal n small =
    let spelt = decimal_is_IsNumeral n (omega arith) in
    record { some = spelt.0.0; each = decimal_digits n small; value = spelt.1; fits = small }

-- the characters of the pages of a range
abbrev page_chars_if : Bool → Range ℕ → List ℕ
page_chars_if same r = cond same (decimal r.start) (decimal r.start ++ 8211 ∷ decimal r.end)

abbrev page_chars : Range ℕ → List ℕ
page_chars r = page_chars_if (r.start == r.end) r

-- the characters of a kept range are parsed as the range
page_range : (b : Bool) (r : Range ℕ) → (r.start == r.end) ≡ b → RangeKept r → range_of (page_chars_if b r) ≡ Some r
page_range true r same kept = range_read_of (decimal r.start) r (record {
  before = [];
  digits = decimal r.start;
  between = [];
  rest = [];
  spells = sym (append-nil (decimal r.start));
  blank = refl;
  start = number_decimal r.start kept.0;
  gap = refl;
  end = subst (EndsRange r.start []) (eqb-true r.start r.end same) lone;
})
page_range false r same kept = range_read_of (decimal r.start ++ 8211 ∷ decimal r.end) r (record {
  before = [];
  digits = decimal r.start;
  between = [];
  rest = 8211 ∷ decimal r.end;
  spells = refl;
  blank = refl;
  start = number_decimal r.start kept.0;
  gap = refl;
  end = dashed 8211 [] [] (decimal r.end) refl refl refl (number_decimal r.end kept.1);
})

pub page_read : (r : Range ℕ) → RangeKept r → range_of (page_chars r) ≡ Some r
page_read r kept = page_range (r.start == r.end) r refl kept

decimal_of_page : (n : ℕ) → n < 2 ^ 32 → list_all is_of_page (decimal n) ≡ true
decimal_of_page n small = passed_weaker is_ascii_digit is_of_page digit_of_page (decimal n) (decimal_digits n small)

page_all : (b : Bool) (r : Range ℕ) → RangeKept r → list_all is_of_page (page_chars_if b r) ≡ true
page_all true r kept = decimal_of_page r.start kept.0
page_all false r kept =
    list_all-append is_of_page (decimal r.start) (8211 ∷ decimal r.end)
    ∙ and_from _ _ (decimal_of_page r.start kept.0) (decimal_of_page r.end kept.1)

-- the digits of a number less than 2 ^ 32 are their own bytes
decimal_bytes : (n : ℕ) → n < 2 ^ 32 → encode_utf8_all (decimal n) ≡ decimal n
decimal_bytes n small =
    encodes-IsAscii (decimal n)
    (simple_ascii (decimal n) (passed_weaker is_ascii_digit is_simple digit_simple (decimal n) (decimal_digits n small)))

page_bytes : (b : Bool) (r : Range ℕ) → RangeKept r
    → encode_utf8_all (page_chars_if b r)
    ≡ cond b (decimal r.start) (decimal r.start ++ (encode_utf8 8211 ++ decimal r.end))
page_bytes true r kept = decimal_bytes r.start kept.0
page_bytes false r kept =
    encodes-append (decimal r.start) (8211 ∷ decimal r.end)
    ∙ ap (λ s. s ++ encode_utf8_all (8211 ∷ decimal r.end)) (decimal_bytes r.start kept.0)
    ∙ ap (λ e. decimal r.start ++ (encode_utf8 8211 ++ e)) (decimal_bytes r.end kept.1)

page_written : (r : Range ℕ) → RangeKept r → encode_utf8_all (page_chars r) ≡ pages_of r
unfolding pages_of
page_written r kept = page_bytes (r.start == r.end) r kept

decimal_some : (n : ℕ) → n < 2 ^ 32 → 0 < length (decimal n)
decimal_some n small = (decimal_is_IsNumeral n (omega arith)).0.0

-- ---- the characters of several ranges

abbrev more_chars : List (Range ℕ) → List ℕ
more_chars [] = []
more_chars (r ∷ rs) = 44 ∷ 32 ∷ (page_chars r ++ more_chars rs)

longer : (xs ys : List ℕ) → 0 < length xs → 0 < length (xs ++ ys)
longer [] ys is = absurd (omega (arith, is))
longer (x ∷ xs) ys is = omega arith

pages_some : (r : Range ℕ) → RangeKept r → 0 < length (pages_of r)
unfolding pages_of
pages_some r kept = some (r.start == r.end)
  where
    first : 0 < length (decimal r.start)
    first = decimal_some r.start kept.0

    some : (b : Bool) → 0 < length (cond b (decimal r.start) (decimal r.start ++ (encode_utf8 8211 ++ decimal r.end)))
    some true = first
    some false = longer (decimal r.start) (encode_utf8 8211 ++ decimal r.end) first

not_nothing : (xs : List ℕ) → 0 < length xs → (length xs == 0) ≡ false
not_nothing xs some = grind (arith, nat_tests)

joined_both : (separator first next : List ℕ) → 0 < length first → 0 < length next
    → joined separator first next ≡ first ++ (separator ++ next)
unfolding joined
joined_both separator first next some more =
    cond-false (length next == 0) _ _ (not_nothing next more)
    ∙ cond-false (length first == 0) _ _ (not_nothing first some)

joined_first : (separator next : List ℕ) → 0 < length next → joined separator [] next ≡ next
unfolding joined
joined_first separator next more = cond-false (length next == 0) _ _ (not_nothing next more)

-- the pages of kept ranges after a text that isn't empty: the text, and each range after a comma and a space
after_pages : (before : List ℕ) (rs : List (Range ℕ)) → AllByRecursion RangeKept rs → 0 < length before
    → pages_after before rs ≡ before ++ encode_utf8_all (more_chars rs)
unfolding pages_after lib.Utf8.encode
after_pages before [] kept some = sym (append-nil before)
after_pages before (r ∷ rs) kept some =
    let page : List ℕ = pages_of r in
    let rest : List ℕ = encode_utf8_all (more_chars rs) in
    let both = joined_both (codes ", ") before page some (pages_some r kept.0) in
    ap (λ t. pages_after t rs) both
    ∙ after_pages (before ++ (codes ", " ++ page)) rs kept.1 (longer before (codes ", " ++ page) some)
    ∙ append_assoc before (codes ", " ++ page) rest
    ∙ ap (λ p. before ++ (codes ", " ++ (p ++ rest))) (sym (page_written r kept.0))
    ∙ ap (λ t. before ++ (codes ", " ++ t)) (sym (encodes-append (page_chars r) (more_chars rs)))

all_pages : (r : Range ℕ) (rs : List (Range ℕ)) → RangeKept r → AllByRecursion RangeKept rs
    → pages_after [] (r ∷ rs) ≡ encode_utf8_all (page_chars r ++ more_chars rs)
unfolding pages_after
all_pages r rs first rest =
    ap (λ t. pages_after t rs) (joined_first (codes ", ") (pages_of r) (pages_some r first))
    ∙ after_pages (pages_of r) rs rest (pages_some r first)
    ∙ ap (λ p. p ++ encode_utf8_all (more_chars rs)) (sym (page_written r first))
    ∙ sym (encodes-append (page_chars r) (more_chars rs))

page_of : (r : Range ℕ) → RangeKept r → list_all is_of_page (page_chars r) ≡ true
page_of r kept = page_all (r.start == r.end) r kept

all_scalar : (cs : List ℕ) → list_all is_of_page cs ≡ true → scalars cs ≡ true
all_scalar [] all = refl
all_scalar (c ∷ cs) all =
    let parts = and_parts (is_of_page c) (list_all is_of_page cs) all in
    and_from _ _ (of_page_scalar c parts.0) (all_scalar cs parts.1)

scalars_both : (xs ys : List ℕ) → scalars xs ≡ true → scalars ys ≡ true → scalars (xs ++ ys) ≡ true
scalars_both [] ys first rest = rest
scalars_both (x ∷ xs) ys first rest =
    let parts = and_parts (scalar x) (scalars xs) first in and_from _ _ parts.0 (scalars_both xs ys parts.1 rest)

more_scalar : (rs : List (Range ℕ)) → AllByRecursion RangeKept rs → scalars (more_chars rs) ≡ true
more_scalar [] kept = refl
more_scalar (r ∷ rs) kept =
    scalars_both (page_chars r) (more_chars rs) (all_scalar (page_chars r) (page_of r kept.0)) (more_scalar rs kept.1)

-- ---- the parts of the list between commas

no_comma : (cs : List ℕ) → list_all is_of_page cs ≡ true → NonePass (λ c. c == 44) cs
no_comma [] all = tt
no_comma (c ∷ cs) all = let parts = and_parts (is_of_page c) (list_all is_of_page cs) all in (of_page_comma c parts.0, no_comma cs parts.1)

cut_here : (cs rest : List ℕ) → NonePass (λ c. c == 44) cs
    → slice_split (λ c. c == 44) (cs ++ 44 ∷ rest) ≡ cs ∷ slice_split (λ c. c == 44) rest
cut_here [] rest free = slice_split-cons_yes (λ c. c == 44) 44 rest refl
cut_here (d ∷ cs) rest free = slice_split-cons_no (λ c. c == 44) d (cs ++ 44 ∷ rest) free.0 ∙ ap (onto_first d) (cut_here cs rest free.1)

-- the texts after the first comma, each after a space
abbrev spaced : List (Range ℕ) → List (List ℕ)
spaced [] = []
spaced (r ∷ rs) = (32 ∷ page_chars r) ∷ spaced rs

none_both : (xs ys : List ℕ) → NonePass (λ c. c == 44) xs → NonePass (λ c. c == 44) ys → NonePass (λ c. c == 44) (xs ++ ys)
none_both [] ys free more = more
none_both (x ∷ xs) ys free more = (free.0, none_both xs ys free.1 more)

cut_after_space : (lead : List ℕ) (r : Range ℕ) (rs : List (Range ℕ)) → RangeKept r → AllByRecursion RangeKept rs
    → NonePass (λ c. c == 44) lead
    → between_commas ((lead ++ page_chars r) ++ more_chars rs) ≡ (lead ++ page_chars r) ∷ spaced rs
cut_after_space lead r [] first rest free =
    ap between_commas (append-nil (lead ++ page_chars r))
    ∙ split_none (λ c. c == 44) (lead ++ page_chars r)
    (none_both lead (page_chars r) free (no_comma (page_chars r) (page_of r first)))
cut_after_space lead r (q ∷ rs) first rest free =
    cut_here (lead ++ page_chars r) (32 ∷ (page_chars q ++ more_chars rs))
    (none_both lead (page_chars r) free (no_comma (page_chars r) (page_of r first)))
    ∙ ap (λ ts. (lead ++ page_chars r) ∷ ts) (cut_after_space (32 ∷ []) q rs rest.0 rest.1 (refl, tt))

-- ---- the texts of the parts, and the ranges that they are parsed as

skip_none : (cs : List ℕ) → list_all is_of_page cs ≡ true → skip_leading_whitespace cs ≡ cs
skip_none [] all = refl
skip_none (c ∷ cs) all = let parts = and_parts (is_of_page c) (list_all is_of_page cs) all in rw (of_page_white c parts.0) refl

drop_none : (cs : List ℕ) → list_all is_of_page cs ≡ true → drop_trailing_whitespace cs ≡ cs
drop_none [] all = refl
drop_none (c ∷ cs) all =
    let parts = and_parts (is_of_page c) (list_all is_of_page cs) all in
    rw (of_page_white c parts.0) (ap (λ t. c ∷ t) (drop_none cs parts.1))

start_cut : (cs : List ℕ) → list_all is_of_page cs ≡ true → trim_start (encode_utf8_all (32 ∷ cs)) ≡ encode_utf8_all cs
unfolding trim_start
start_cut cs all =
    ap (λ t. encode_utf8_all (skip_leading_whitespace t)) (chars-encodes (32 ∷ cs) (all_scalar cs all))
    ∙ ap encode_utf8_all (skip_none cs all)

end_cut : (cs : List ℕ) → list_all is_of_page cs ≡ true → trim_end (encode_utf8_all cs) ≡ encode_utf8_all cs
unfolding trim_end
end_cut cs all =
    ap (λ t. encode_utf8_all (drop_trailing_whitespace t)) (chars-encodes cs (all_scalar cs all)) ∙ ap encode_utf8_all (drop_none cs all)

end_stays : (last : Bool) (cs : List ℕ) → list_all is_of_page cs ≡ true → trimmed_end last (encode_utf8_all cs) ≡ encode_utf8_all cs
end_stays true cs all = end_cut cs all
end_stays false cs all = refl

part_says : (whole : List ℕ) (span : Range ℕ) (at : ℕ) (text : List ℕ)
    → formatted_chars (chunk_part whole span at text ∷ []) ≡ flowing false (chars text) ++ []
part_says whole span at text = says (length text == length whole)
  where
    says : (b : Bool)
        → formatted_chars
        (cond b (with_span (Normal text) span.start span.end)
        (with_span (Normal text) (further span.start at) (further (further span.start at) (length text)))
        ∷ []) ≡ flowing false (chars text) ++ []
    says true = refl
    says false = refl

page_says : (cs : List ℕ) → list_all is_of_page cs ≡ true → flowing false (chars (encode_utf8_all cs)) ++ [] ≡ cs
page_says cs all =
    append-nil _ ∙ ap (flowing false) (chars-encodes cs (all_scalar cs all))
    ∙ flowing_whole false cs (passed_weaker is_of_page is_unbroken of_page_goes cs all)

first_says : (whole : List ℕ) (span : Range ℕ) (at : ℕ) (last : Bool) (cs : List ℕ) → list_all is_of_page cs ≡ true
    → formatted_chars (piece whole span at false last (encode_utf8_all cs) ∷ []) ≡ cs
first_says whole span at last cs all =
    part_says whole span _ (trimmed_end last (encode_utf8_all cs))
    ∙ ap (λ t. flowing false (chars t) ++ []) (end_stays last cs all) ∙ page_says cs all

later_says : (whole : List ℕ) (span : Range ℕ) (at : ℕ) (last : Bool) (cs : List ℕ) → list_all is_of_page cs ≡ true
    → formatted_chars (piece whole span at true last (encode_utf8_all (32 ∷ cs)) ∷ []) ≡ cs
later_says whole span at last cs all =
    part_says whole span _ (trimmed_end last (trim_start (encode_utf8_all (32 ∷ cs))))
    ∙ ap (λ t. flowing false (chars (trimmed_end last t)) ++ []) (start_cut cs all)
    ∙ ap (λ t. flowing false (chars t) ++ []) (end_stays last cs all) ∙ page_says cs all

joined_more : (p : Spanned Chunk) (whole : List ℕ) (span : Range ℕ) (at : ℕ) (text : List ℕ) (texts : List (List ℕ))
    (parts : List Value)
    → joined_parts (p ∷ pieces_between 1 whole span at true (text ∷ texts)) parts
    ≡ (p ∷ []) ∷ joined_parts (pieces_between 1 whole span at true (text ∷ texts)) parts
joined_more p whole span at text [] parts = refl
joined_more p whole span at text (next ∷ more) parts = refl

abbrev said : List Value → List (List ℕ)
said parts = map formatted_chars parts

later_parts : (whole : List ℕ) (span : Range ℕ) (at : ℕ) (r : Range ℕ) (rs : List (Range ℕ)) → RangeKept r → AllByRecursion RangeKept rs
    → said (joined_parts (pieces_between 1 whole span at true ((32 ∷ page_chars r) ∷ spaced rs)) ([] ∷ []))
    ≡ page_chars r ∷ map page_chars rs
later_parts whole span at r [] first rest = ap (λ cs. cs ∷ []) (later_says whole span at false (page_chars r) (page_of r first))
later_parts whole span at r (q ∷ rs) first rest =
    let here : Spanned Chunk = piece whole span at true true (encode_utf8_all (32 ∷ page_chars r)) in
    let next : ℕ = at + (length (encode_utf8_all (32 ∷ page_chars r)) + 1) in
    ap said (joined_more here whole span next (32 ∷ page_chars q) (spaced rs) ([] ∷ []))
    ∙ ap
    (λ cs.
    cs ∷ said (joined_parts (pieces_between 1 whole span next true ((32 ∷ page_chars q) ∷ spaced rs)) ([] ∷ [])))
    (later_says whole span at true (page_chars r) (page_of r first))
    ∙ ap (λ ts. page_chars r ∷ ts) (later_parts whole span next q rs rest.0 rest.1)

all_parts : (whole : List ℕ) (span : Range ℕ) (r : Range ℕ) (rs : List (Range ℕ)) → RangeKept r → AllByRecursion RangeKept rs
    → said (joined_parts (pieces_between 1 whole span 0 false (page_chars r ∷ spaced rs)) ([] ∷ [])) ≡ page_chars r ∷ map page_chars rs
all_parts whole span r [] first rest = ap (λ cs. cs ∷ []) (first_says whole span 0 false (page_chars r) (page_of r first))
all_parts whole span r (q ∷ rs) first rest =
    let here : Spanned Chunk = piece whole span 0 false true (encode_utf8_all (page_chars r)) in
    let next : ℕ = 0 + (length (encode_utf8_all (page_chars r)) + 1) in
    ap said (joined_more here whole span next (32 ∷ page_chars q) (spaced rs) ([] ∷ []))
    ∙ ap
    (λ cs.
    cs ∷ said (joined_parts (pieces_between 1 whole span next true ((32 ∷ page_chars q) ∷ spaced rs)) ([] ∷ [])))
    (first_says whole span 0 true (page_chars r) (page_of r first))
    ∙ ap (λ ts. page_chars r ∷ ts) (later_parts whole span next q rs rest.0 rest.1)

composed : (parts : List Value) → map (λ part. range_of (formatted_chars part)) parts ≡ map range_of (said parts)
composed [] = refl
composed (p ∷ parts) = ap (λ xs. range_of (formatted_chars p) ∷ xs) (composed parts)

each_read : (rs : List (Range ℕ)) → AllByRecursion RangeKept rs → all_of (map range_of (map page_chars rs)) ≡ Some rs
each_read [] kept = refl
each_read (r ∷ rs) kept =
    ap (λ x. with_first x (all_of (map range_of (map page_chars rs)))) (page_read r kept.0)
    ∙ ap (with_first (Some r)) (each_read rs kept.1)

ranges_are : (r : Range ℕ) (rs : List (Range ℕ)) → RangeKept r → AllByRecursion RangeKept rs
    → ranges_read (alone (Normal (pages_after [] (r ∷ rs)))) ≡ Some (r ∷ rs)
unfolding ranges_read
ranges_are r rs first rest =
    let cs : List ℕ = page_chars r ++ more_chars rs in
    let valid : scalars cs ≡ true =
    scalars_both (page_chars r) (more_chars rs) (all_scalar (page_chars r) (page_of r first)) (more_scalar rs rest) in
    let cut : between_commas (chars (encode_utf8_all cs)) ≡ page_chars r ∷ spaced rs =
    ap between_commas (chars-encodes cs valid) ∙ cut_after_space [] r rs first rest tt in
    ap (λ t. all_of (map (λ part. range_of (formatted_chars part)) (comma_list (alone (Normal t))))) (all_pages r rs first rest)
    ∙ ap all_of (composed (comma_list (alone (Normal (encode_utf8_all cs)))))
    ∙ ap (λ ts. all_of (map range_of (said (joined_parts (pieces_between 1 (encode_utf8_all cs) no_place 0 false ts) ([] ∷ []))))) cut
    ∙ ap (λ ps. all_of (map range_of ps)) (all_parts (encode_utf8_all cs) no_place r rs first rest)
    ∙ each_read (r ∷ rs) (first, rest)

-- ---- the text that the characters are converted back to

sign_of_digit : (b : Bool) (c : ℕ) → is_ascii_digit c ≡ true → page_sign b c ≡ encode_utf8 c
unfolding page_sign
sign_of_digit b c is =
    let whole = digit_of_page c is in
    rw (of_page_white c whole) (rw (digit_no_dash c is) (rw (of_page_comma c whole) refl))

after_digit : (b : Bool) (c : ℕ) → is_ascii_digit c ≡ true → follows_dash_after b c ≡ false
unfolding follows_dash_after
after_digit b c is = rw (of_page_white c (digit_of_page c is)) (digit_no_dash c is)

digits_shown : (b : Bool) (d : ℕ) (ds rest : List ℕ) → list_all is_ascii_digit (d ∷ ds) ≡ true
    → pages_from b ((d ∷ ds) ++ rest) ≡ encode_utf8_all (d ∷ ds) ++ pages_from false rest
digits_shown b d [] rest all =
    let is = (and_parts (is_ascii_digit d) true all).0 in
    rw (after_digit b d is) (rw (sign_of_digit b d is) (ap (λ s. s ++ pages_from false rest) (sym (append-nil (encode_utf8 d)))))
digits_shown b d (e ∷ ds) rest all =
    let parts = and_parts (is_ascii_digit d) (list_all is_ascii_digit (e ∷ ds)) all in
    rw (after_digit b d parts.0)
    (rw (sign_of_digit b d parts.0)
    (ap (λ s. encode_utf8 d ++ s) (digits_shown false e ds rest parts.1)
    ∙ sym (append_assoc (encode_utf8 d) (encode_utf8_all (e ∷ ds)) (pages_from false rest))))

decimal_shown : (b : Bool) (digits rest : List ℕ) → 0 < length digits → list_all is_ascii_digit digits ≡ true
    → pages_from b (digits ++ rest) ≡ encode_utf8_all digits ++ pages_from false rest
decimal_shown b [] rest some all = absurd (omega (arith, some))
decimal_shown b (d ∷ ds) rest some all = digits_shown b d ds rest all

dash_shown : (rest : List ℕ) → pages_from false (8211 ∷ rest) ≡ encode_utf8 8211 ++ pages_from true rest
unfolding page_sign follows_dash_after
dash_shown rest = refl

comma_shown : (rest : List ℕ) → pages_from false (44 ∷ 32 ∷ rest) ≡ codes ", " ++ pages_from false rest
unfolding page_sign follows_dash_after
comma_shown rest = refl

comma_bytes : (rest : List ℕ) → codes ", " ++ encode_utf8_all rest ≡ encode_utf8_all (44 ∷ 32 ∷ rest)
unfolding lib.Utf8.encode
comma_bytes rest = refl

page_shown : (b : Bool) (r : Range ℕ) (rest : List ℕ) → RangeKept r
    → pages_from false (page_chars_if b r ++ rest) ≡ encode_utf8_all (page_chars_if b r) ++ pages_from false rest
page_shown true r rest kept =
    decimal_shown false (decimal r.start) rest (decimal_some r.start kept.0) (decimal_digits r.start kept.0)
page_shown false r rest kept =
    let start : List ℕ = decimal r.start in
    let end : List ℕ = decimal r.end in
    ap (pages_from false) (append_assoc start (8211 ∷ end) rest)
    ∙ decimal_shown false start (8211 ∷ (end ++ rest)) (decimal_some r.start kept.0) (decimal_digits r.start kept.0)
    ∙ ap (λ s. encode_utf8_all start ++ s) (dash_shown (end ++ rest))
    ∙ ap (λ s. encode_utf8_all start ++ (encode_utf8 8211 ++ s))
    (decimal_shown true end rest (decimal_some r.end kept.1) (decimal_digits r.end kept.1))
    ∙ ap (λ s. encode_utf8_all start ++ s) (sym (append_assoc (encode_utf8 8211) (encode_utf8_all end) (pages_from false rest)))
    ∙ sym (append_assoc (encode_utf8_all start) (encode_utf8_all (8211 ∷ end)) (pages_from false rest))
    ∙ ap (λ s. s ++ pages_from false rest) (sym (encodes-append start (8211 ∷ end)))

more_shown : (rs : List (Range ℕ)) → AllByRecursion RangeKept rs → pages_from false (more_chars rs) ≡ encode_utf8_all (more_chars rs)
more_shown [] kept = refl
more_shown (r ∷ rs) kept =
    comma_shown (page_chars r ++ more_chars rs)
    ∙ ap (λ s. codes ", " ++ s) (page_shown (r.start == r.end) r (more_chars rs) kept.0)
    ∙ ap (λ s. codes ", " ++ (encode_utf8_all (page_chars r) ++ s)) (more_shown rs kept.1)
    ∙ ap (λ s. codes ", " ++ s) (sym (encodes-append (page_chars r) (more_chars rs)))
    ∙ comma_bytes (page_chars r ++ more_chars rs)

all_shown : (r : Range ℕ) (rs : List (Range ℕ)) → RangeKept r → AllByRecursion RangeKept rs
    → pages_from false (page_chars r ++ more_chars rs) ≡ encode_utf8_all (page_chars r ++ more_chars rs)
all_shown r rs first rest =
    page_shown (r.start == r.end) r (more_chars rs) first
    ∙ ap (λ s. encode_utf8_all (page_chars r) ++ s) (more_shown rs rest)
    ∙ sym (encodes-append (page_chars r) (more_chars rs))

-- ---- the text of the field

page_goes : (cs : List ℕ) → list_all is_of_page cs ≡ true → list_all is_unbroken cs ≡ true
page_goes cs all = passed_weaker is_of_page is_unbroken of_page_goes cs all

more_goes : (rs : List (Range ℕ)) → AllByRecursion RangeKept rs → list_all is_unbroken (more_chars rs) ≡ true
more_goes [] kept = refl
more_goes (r ∷ rs) kept =
    list_all-append is_unbroken (page_chars r) (more_chars rs)
    ∙ and_from _ _ (page_goes (page_chars r) (page_of r kept.0)) (more_goes rs kept.1)

text_stays : (cs : List ℕ) → scalars cs ≡ true → list_all is_unbroken cs ≡ true
    → text (alone (Normal (encode_utf8_all cs))) ≡ encode_utf8_all cs
text_stays cs valid goes =
    ap (λ t. encode_utf8_all (flowing false t ++ [])) (chars-encodes cs valid)
    ∙ ap (λ t. encode_utf8_all (t ++ [])) (flowing_whole false cs goes) ∙ ap encode_utf8_all (append-nil cs)

shown_again : (r : Range ℕ) (rs : List (Range ℕ)) → RangeKept r → AllByRecursion RangeKept rs
    → pages_from false (chars (text (alone (Normal (pages_after [] (r ∷ rs)))))) ≡ pages_after [] (r ∷ rs)
shown_again r rs first rest =
    let cs : List ℕ = page_chars r ++ more_chars rs in
    let is = all_pages r rs first rest in
    let valid : scalars cs ≡ true =
    scalars_both (page_chars r) (more_chars rs) (all_scalar (page_chars r) (page_of r first)) (more_scalar rs rest) in
    let goes : list_all is_unbroken cs ≡ true =
    list_all-append is_unbroken (page_chars r) (more_chars rs)
    ∙ and_from _ _ (page_goes (page_chars r) (page_of r first)) (more_goes rs rest) in
    ap (λ t. pages_from false (chars (text (alone (Normal t))))) is
    ∙ ap (λ t. pages_from false (chars t)) (text_stays cs valid goes)
    ∙ ap (pages_from false) (chars-encodes cs valid)
    ∙ all_shown r rs first rest ∙ sym is

pub pages_read : (ranges : List (Range ℕ)) → RangesKept ranges
    → pages (Some (alone (Normal (pages_after [] ranges)))) ≡ pages_after [] ranges
unfolding pages
pages_read [] kept = absurd (omega (arith, kept.0))
pages_read (r ∷ rs) kept =
    ap (λ o. pages_text o (alone (Normal (pages_after [] (r ∷ rs))))) (ranges_are r rs kept.1.0 kept.1.1)
    ∙ shown_again r rs kept.1.0 kept.1.1
