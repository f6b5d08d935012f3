-- Facts about lists and their parts.
use Rattle.std.proofs.Common.{◌≡◌, ℕ, ◌+◌, ◌-◌, ◌<◌, ◌≤◌, Bool, true, false, List, [], ◌∷◌, ◌++◌, length, get_or, take, drop, refl, sym, ap, ◌∙◌, append_assoc, length-append, arith, Option, Some, None, ⊎_elim}
use Rattle.std.specs.Prelude.{◌==◌, codes, encode_utf8_all, MatchOption, option_map, if◌then◌else◌}
use Rattle.std.specs.Char.{len_utf8}
use Rattle.std.specs.List.{slice_split, onto_first}
use Rattle.std.specs.Str.{IsUtf8, NonePass, chars}
use Rattle.std.specs.declared.ops.Range.{Range}
use Rattle.std.proofs.lemmas.List.{drop_more, take-append-drop}
use Rattle.std.proofs.lemmas.Str.{IsUtf8-take, IsCharBoundary-from_drop, encodes-chars}
use Rattle.std.proofs.lemmas.List.Splits.{slice_split-cons_yes, slice_split-cons_no}
use Rattle.std.proofs.lemmas.Str.Pattern.{IsSplitOnceResult}
use Rattle.std.proofs.lemmas.Bool.{cases_Bool, cond-true, cond-false, eq-eqb}
use Rattle.std.specs.Borrow.{Bor}
use Rattle.bib_chunks.specs.declared.chunk.Chunk.{Chunk}
use Rattle.bib_text.specs.declared.spanned.Spanned.{Spanned}
use Rattle.bib_text.proofs.TextFacts.{chars_past, chars_whole, encode_one}
use Rattle.bib_chunks.specs.declared.chunk.cuts.Parts.{Parts}
use Rattle.bib_chunks.specs.declared.chunk.cuts.Separator.{Separator}
use Rattle.bib_chunks.specs.declared.chunk.cuts.Separator.TheVariants.{Comma, And}
use Rattle.bib_chunks.specs.declared.chunk.Chunk.TheVariants.{Normal}
use Rattle.bib_chunks.specs.Cuts.{further, with_span, chunk_part, piece, pieces, pieces_between, onto, joined_parts, list_parts, between_commas, between_ands, cut_characters, both_pieces, halves}
use Rattle.bib_chunks.specs.Cutting.{between_cuts, width, all_parts, ReadsPieces, IsFirstCut, IsFirstAnd}
use Rattle.bib_chunks.proofs.AndFacts.{ands_some}

-- prepending two lists of chunks in turn is prepending both at once
onto_onto : (xs ys : List (Spanned Chunk)) (parts : List (List (Spanned Chunk))) → onto xs (onto ys parts) ≡ onto (xs ++ ys) parts
onto_onto xs ys [] = refl
onto_onto xs ys (part ∷ parts) = ap (λ p. p ∷ parts) (sym (append_assoc xs ys part))

-- if prepending nothing to `parts` changes nothing, it also changes nothing after pieces are joined to `parts`
onto_nothing : (pieces : List (Spanned Chunk)) (parts : List (List (Spanned Chunk))) → onto [] parts ≡ parts
    → onto [] (joined_parts pieces parts) ≡ joined_parts pieces parts
onto_nothing [] parts some = some
onto_nothing (p ∷ []) parts some = onto_onto [] (p ∷ []) parts
onto_nothing (p ∷ q ∷ more) parts some = refl

-- prepending nothing to the parts of a list changes nothing
pub onto_parts : (w : ℕ) (cut : List ℕ → List (List ℕ)) (chunks : List (Spanned Chunk))
    → onto [] (list_parts w cut chunks) ≡ list_parts w cut chunks
onto_parts w cut [] = refl
onto_parts w cut (c ∷ rest) = onto_nothing (pieces w cut c.v c.span) (list_parts w cut rest) (onto_parts w cut rest)

onto_some : (next : Spanned Chunk) (more : List (Spanned Chunk)) (parts : List (List (Spanned Chunk)))
    → onto [] (joined_parts (next ∷ more) parts) ≡ joined_parts (next ∷ more) parts
onto_some next [] parts = onto_onto [] (next ∷ []) parts
onto_some next (q ∷ more) parts = refl

-- a chunk was added to the current part
pub read_one : (old new : Parts) (piece : Spanned Chunk)
    → new ≡ record { done = old.done; last = old.last ++ piece ∷ [] } → ReadsPieces old new (piece ∷ [])
read_one old new piece is following =
    ap (λ p. all_parts p following) is ∙ ap (λ ps. old.done ++ ps) (sym (onto_onto old.last (piece ∷ []) following))

-- the parts with the current one finished, and an empty current one
ended : Parts → Parts
ended parts = record { done = parts.done ++ parts.last ∷ []; last = [] }

-- a piece was added, and its part was finished
read_end : (old middle new : Parts) (piece next : Spanned Chunk) (more : List (Spanned Chunk))
    → middle ≡ record { done = old.done; last = old.last ++ piece ∷ [] }
    → new ≡ record { done = middle.done ++ middle.last ∷ []; last = [] }
    → (following : List (List (Spanned Chunk)))
    → all_parts new (joined_parts (next ∷ more) following)
    ≡ all_parts old (joined_parts (piece ∷ next ∷ more) following)
unfolding ended
read_end old middle new piece next more added closed following =
    let is : new ≡ record { done = old.done ++ (old.last ++ piece ∷ []) ∷ []; last = [] } = closed ∙ ap ended added in
    ap (λ p. all_parts p (joined_parts (next ∷ more) following)) is
    ∙ append_assoc old.done ((old.last ++ piece ∷ []) ∷ []) _
    ∙ ap (λ ps. old.done ++ (old.last ++ piece ∷ []) ∷ ps) (onto_some next more following)

-- two additions to an offset are one
further_twice : (at n m : ℕ) → further at (further n m) ≡ further at (n + m)
further_twice at n m = omega arith

-- the span of a part is the same if its offset is saturated first
pub part_further : (whole text : List ℕ) (span : Range ℕ) (at skipped : ℕ)
    → chunk_part whole span (further at skipped) text ≡ chunk_part whole span (at + skipped) text
part_further whole text span at skipped =
    ap
    (λ n.
    if length text == length whole then with_span (Normal text) span.start span.end
    else with_span (Normal text) n (further n (length text)))
    (further_twice span.start at skipped)

-- `before` and `after` are the texts before and after the first `c` of a text, both UTF-8
pub record IsCharCut (c : ℕ) (text before after : List ℕ) : Type 0 where
  pub free : NonePass (λ d. d == c) (chars before)
  pub cut : chars text ≡ chars before ++ c ∷ chars after
  pub spells : before ≡ encode_utf8_all (chars before)
  pub utf8 : IsUtf8 after
  pub size : length text ≡ length before + (len_utf8 c + length after)

-- the texts that `split_once` returns for a character and a UTF-8 text are its cut (`IsCharCut`)
pub char_cut : (c : ℕ) (text : List ℕ) (before after : Bor (List ℕ)) → IsUtf8 text
    → IsSplitOnceResult c text (Some (before, after)) → IsCharCut c text before.now after.now
char_cut c text before after utf8 (i, j, found, leading_run, back, ordered, size, rest_size) =
    let spelt : encode_utf8_all found.0.0 ≡ take i text = found.0.1 in
    let past = chars_past found.0.0 text (drop i text) utf8 (sym (take-append-drop i text) ∙ ap (λ bs. bs ++ drop i text) (sym spelt)) in
    let one = chars_past (c ∷ []) (drop i text) (drop j text) past.1 (found.1.split ∙ ap (λ bs. bs ++ drop j text) (encode_one c)) in
    let within : i ≤ length text = omega arith in
    let prefix_utf8 : IsUtf8 (take i text) = IsUtf8-take text i utf8 (IsCharBoundary-from_drop text i within past.1) in
    let prefix_chars : chars (take i text) ≡ found.0.0 = chars_whole found.0.0 (take i text) prefix_utf8 (sym spelt) in
    let rest_chars : chars (drop i text) ≡ c ∷ chars (drop j text) = one.0 in
    rw (leading_run, back) (record {
      free = rw prefix_chars found.0.2;
      cut = past.0 ∙ ap (λ cs. found.0.0 ++ cs) rest_chars ∙ ap (λ cs. cs ++ c ∷ chars (drop j text)) (sym prefix_chars);
      spells = sym (encodes-chars (take i text) prefix_utf8);
      utf8 = one.1;
      size = omega (arith, found.1.ends, size, rest_size, ap length leading_run, ap length back);
    })

-- if `split_once` returns `None` for a UTF-8 text, no character of the text is the one searched for
pub char_free : (c : ℕ) (text : List ℕ) → IsUtf8 text → IsSplitOnceResult c text None → NonePass (λ d. d == c) (chars text)
char_free c text utf8 none = rw (chars_whole none.0 text utf8 (sym none.1)) none.2

-- a list without separators is split into itself
pub split_none : (test : ℕ → Bool) (cs : List ℕ) → NonePass test cs → slice_split test cs ≡ cs ∷ []
split_none test [] free = refl
split_none test (c ∷ cs) free = slice_split-cons_no test c cs free.0 ∙ ap (onto_first c) (split_none test cs free.1)

-- a text is split at the first character that passes
split_here : (test : ℕ → Bool) (cs : List ℕ) (c : ℕ) (rest : List ℕ) → NonePass test cs → test c ≡ true
    → slice_split test (cs ++ c ∷ rest) ≡ cs ∷ slice_split test rest
split_here test [] c rest free here = slice_split-cons_yes test c rest here
split_here test (d ∷ cs) c rest free here =
    slice_split-cons_no test d (cs ++ c ∷ rest) free.0 ∙ ap (onto_first d) (split_here test cs c rest free.1 here)

-- the result of `split_once` at a comma in a UTF-8 text is the first cut of a comma list, or `None` if there is no cut
pub first_comma : (text : List ℕ) (r : Option (Bor (List ℕ) × Bor (List ℕ))) → IsUtf8 text → IsSplitOnceResult 44 text r
    → MatchOption r (between_cuts Comma (chars text) ≡ chars text ∷ []) (λ both. IsFirstCut Comma text both.0.now both.1.now)
first_comma text None utf8 none = split_none (λ c. c == 44) (chars text) (char_free 44 text utf8 none)
first_comma text (Some both) utf8 found =
    let is = char_cut 44 text both.0 both.1 utf8 found in
    record {
      cut = ap (slice_split (λ c. c == 44)) is.cut ∙ split_here (λ c. c == 44) (chars both.0.now) 44 (chars both.1.now) is.free refl;
      spells = is.spells;
      utf8 = is.utf8;
      size = is.size;
    }

-- a result of the search for `and` is the first cut of an `and` list
pub first_word : (text : List ℕ) (r : Option (Bor (List ℕ) × Bor (List ℕ)))
    → MatchOption r (between_ands false (chars text) ≡ chars text ∷ []) (λ both. IsFirstAnd text both.0.now both.1.now)
    → MatchOption r (between_cuts And (chars text) ≡ chars text ∷ []) (λ both. IsFirstCut And text both.0.now both.1.now)
first_word text None none = none
first_word text (Some both) first = record {
  cut = first.cut;
  spells = first.spells;
  utf8 = first.utf8;
  size =
      ap length first.word ∙ length-append both.0.now (codes "and" ++ both.1.now)
      ∙ ap (λ n. length both.0.now + n) (length-append (codes "and") both.1.now);
}

-- there is at least one text between commas
commas_some : (cs : List ℕ) → (text : List ℕ) × (more : List (List ℕ)) × (between_commas cs ≡ text ∷ more)
commas_some [] = ([], [], refl)
commas_some (c ∷ cs) =
    let rest = commas_some cs in
    ⊎_elim (λ yes. ([], between_commas cs, slice_split-cons_yes (λ d. d == 44) c cs yes))
    (λ other. (c ∷ rest.0, rest.1, slice_split-cons_no (λ d. d == 44) c cs other ∙ ap (onto_first c) rest.2))
    (cases_Bool (c == 44))

-- there is at least one text between separators
between_some : (separator : Separator) (cs : List ℕ) → (text : List ℕ) × (more : List (List ℕ)) × (between_cuts separator cs ≡ text ∷ more)
between_some Comma cs = commas_some cs
between_some And cs = ands_some false cs

-- a chunk that is cut has at least one piece
pub pieces_some : (w : ℕ) (whole : List ℕ) (span : Range ℕ) (at : ℕ) (following : Bool) (text : List ℕ) (more : List (List ℕ))
    → (x : Spanned Chunk) × (xs : List (Spanned Chunk)) × (pieces_between w whole span at following (text ∷ more) ≡ x ∷ xs)
pieces_some w whole span at following text [] = (_, _, refl)
pieces_some w whole span at following text (next ∷ more) = (_, _, refl)

-- a piece up to a separator was read
pub read_piece : (separator : Separator) (old middle new : Parts) (whole : List ℕ) (span : Range ℕ) (at onward : ℕ)
    (following : Bool) (rest before after : List ℕ) (here : Spanned Chunk)
    → IsFirstCut separator rest before after → onward ≡ at + (length before + width separator)
    → here ≡ piece whole span at following true before
    → middle ≡ record { done = old.done; last = old.last ++ here ∷ [] } → new ≡ record { done = middle.done ++ middle.last ∷ []; last = [] }
    → (parts : List (List (Spanned Chunk)))
    → all_parts new (joined_parts (pieces_between (width separator) whole span onward true (between_cuts separator (chars after))) parts)
    ≡ all_parts old (joined_parts (pieces_between (width separator) whole span at following (between_cuts separator (chars rest))) parts)
read_piece separator old middle new whole span at onward following rest before after here first onward_is here_is added closed parts =
    let w = width separator in
    let (text, more, split) = between_some separator (chars after) in
    let (x, xs, some) = pieces_some w whole span onward true text more in
    let rest_pieces : pieces_between w whole span onward true (between_cuts separator (chars after)) ≡ x ∷ xs =
    ap (pieces_between w whole span onward true) split ∙ some in
    let bytes : encode_utf8_all (chars before) ≡ before = sym first.spells in
    let all_here : pieces_between w whole span at following (chars before ∷ text ∷ more) ≡ here ∷ (x ∷ xs) =
    ap (λ bs. piece whole span at following true bs ∷ pieces_between w whole span (at + (length bs + w)) true (text ∷ more)) bytes
    ∙ ap (λ n. piece whole span at following true before ∷ pieces_between w whole span n true (text ∷ more)) (sym onward_is)
    ∙ ap (λ ys. piece whole span at following true before ∷ ys) some
    ∙ ap (λ p. p ∷ (x ∷ xs)) (sym here_is) in
    let all_pieces : pieces_between w whole span at following (between_cuts separator (chars rest)) ≡ here ∷ (x ∷ xs) =
    ap (pieces_between w whole span at following) (first.cut ∙ ap (λ ts. chars before ∷ ts) split) ∙ all_here in
    ap (λ ps. all_parts new (joined_parts ps parts)) rest_pieces ∙ read_end old middle new here x xs added closed parts
    ∙ ap (λ ps. all_parts old (joined_parts ps parts)) (sym all_pieces)

-- the last piece, a UTF-8 text, was read
pub read_rest : (separator : Separator) (old new : Parts) (whole : List ℕ) (span : Range ℕ) (at : ℕ) (following : Bool)
    (rest : List ℕ) (here : Spanned Chunk)
    → IsUtf8 rest → between_cuts separator (chars rest) ≡ chars rest ∷ [] → here ≡ piece whole span at following false rest
    → new ≡ record { done = old.done; last = old.last ++ here ∷ [] }
    → ReadsPieces old new (pieces_between (width separator) whole span at following (between_cuts separator (chars rest)))
read_rest separator old new whole span at following rest here utf8 last here_is added parts =
    let pieces : pieces_between (width separator) whole span at following (between_cuts separator (chars rest)) ≡ here ∷ [] =
    ap (pieces_between (width separator) whole span at following) last
    ∙ ap (λ bs. piece whole span at following false bs ∷ []) (encodes-chars rest utf8)
    ∙ ap (λ p. p ∷ []) (sym here_is) in
    read_one old new here added parts ∙ ap (λ ps. all_parts old (joined_parts ps parts)) (sym pieces)

-- one chunk of a list was read
pub read_chunk : (w : ℕ) (cut : List ℕ → List (List ℕ)) (old new : Parts) (total : List (List (Spanned Chunk)))
    (chunks : List (Spanned Chunk)) (i : ℕ) (x : Spanned Chunk) → i < length chunks → x ≡ get_or chunks i x
    → ReadsPieces old new (pieces w cut x.v x.span) → all_parts old (list_parts w cut (drop i chunks)) ≡ total
    → all_parts new (list_parts w cut (drop (i + 1) chunks)) ≡ total
read_chunk w cut old new total chunks i x within is reads so_far =
    let split : drop i chunks ≡ x ∷ drop (i + 1) chunks = drop_more chunks i x within ∙ ap (λ y. y ∷ drop (i + 1) chunks) (sym is) in
    reads (list_parts w cut (drop (i + 1) chunks)) ∙ ap (λ cs. all_parts old (list_parts w cut cs)) (sym split) ∙ so_far

-- without the character there is no cut
cut_free : (c : ℕ) (cs : List ℕ) → NonePass (λ d. d == c) cs → cut_characters c cs ≡ None
cut_free c [] free = refl
cut_free c (d ∷ cs) free = cond-false (d == c) _ _ free.0 ∙ ap (option_map (λ both. (d ∷ both.0, both.1))) (cut_free c cs free.1)

-- a text is cut at the first character that is `c`
cut_here : (c : ℕ) (cs rest : List ℕ) → NonePass (λ d. d == c) cs → cut_characters c (cs ++ c ∷ rest) ≡ Some (cs, rest)
cut_here c [] rest free = cond-true (c == c) _ _ (eq-eqb c c refl)
cut_here c (d ∷ cs) rest free = cond-false (d == c) _ _ free.0 ∙ ap (option_map (λ both. (d ∷ both.0, both.1))) (cut_here c cs rest free.1)

-- a normal chunk has no halves if `split_once` doesn't find the character in its UTF-8 text
pub no_halves : (c : ℕ) (text : List ℕ) (span : Range ℕ) → IsUtf8 text → IsSplitOnceResult c text None → None ≡ halves (Normal text) span c
no_halves c text span utf8 none =
    sym (ap (option_map (both_pieces (len_utf8 c) text span)) (cut_free c (chars text) (char_free c text utf8 none)))

-- the two pieces around the character that `split_once` finds in a normal chunk's UTF-8 text are its halves
pub two_halves : (c : ℕ) (text : List ℕ) (span : Range ℕ) (before after : Bor (List ℕ)) (first second : Spanned Chunk) (at : ℕ)
    → IsUtf8 text → IsSplitOnceResult c text (Some (before, after)) → at ≡ length text - length after.now
    → first ≡ piece text span 0 false true before.now → second ≡ piece text span at true false after.now
    → Some (first, second) ≡ halves (Normal text) span c
two_halves c text span before after first second at utf8 found at_is first_is second_is =
    let is = char_cut c text before after utf8 found in
    let here : at ≡ length before.now + len_utf8 c = omega (arith, is.size) in
    ap (λ p. Some (p, second)) (first_is ∙ ap (piece text span 0 false true) is.spells)
    ∙ ap (λ p. Some (piece text span 0 false true (encode_utf8_all (chars before.now)), p))
    (second_is ∙ ap (λ n. piece text span n true false after.now) (here ∙ ap (λ bs. length bs + len_utf8 c) is.spells)
    ∙ ap (piece text span (length (encode_utf8_all (chars before.now)) + len_utf8 c) true false)
    (sym (encodes-chars after.now is.utf8)))
    ∙ sym
    (ap (option_map (both_pieces (len_utf8 c) text span))
    (ap (cut_characters c) is.cut ∙ cut_here c (chars before.now) (chars after.now) is.free))
