-- Facts about texts without the white space at their ends.
use Rattle.std.proofs.Common.{◌≡◌, ℕ, Bool, true, false, cond, ◌&&◌, List, [], ◌∷◌, ◌++◌, length, map, refl, sym, ap, ◌∙◌, append-nil, ◌+◌, ◌-◌, arith, length-append}
use Rattle.std.specs.Prelude.{◌==◌, encode_utf8_all, if◌then◌else◌}
use Rattle.std.specs.Char.{is_whitespace}
use Rattle.std.specs.List.{list_all}
use Rattle.std.specs.Str.{trim_start, trim_end, skip_leading_whitespace, drop_trailing_whitespace}
use Rattle.std.specs.declared.ops.Range.{Range}
use Rattle.std.proofs.Math.Utf8.{scalar, scalars}
use Rattle.std.proofs.lemmas.Bool.{and_parts, eqb-true, false≢true}
use Rattle.std.proofs.lemmas.List.{nil_from_length}
use Rattle.std.proofs.lemmas.Str.{chars-encodes, encodes-append}
use Rattle.bib_chunks.specs.declared.chunk.Chunk.{Chunk}
use Rattle.bib_chunks.specs.declared.chunk.Chunk.TheVariants.{Normal}
use Rattle.bib_text.specs.declared.spanned.Spanned.{Spanned}
use Rattle.bib_chunks.specs.Styled.{Atom, atoms_of}
use Rattle.bib_chunks.specs.Cuts.{further, with_span, trimmed_start, trimmed_end, chunk_part, piece}

-- a text is the text that is left by trimming, with white space before it (`skipped`) or after it (`dropped`)
skipped : (cs : List ℕ) → (lead : List ℕ) × (cs ≡ lead ++ skip_leading_whitespace cs) × (list_all is_whitespace lead ≡ true)
skipped [] = ([], refl, refl)
skipped (c ∷ cs) =
    let rest = skipped cs in
    elim (is_whitespace c) as
    (λ b.
    is_whitespace c ≡ b
    → (lead : List ℕ) × (c ∷ cs ≡ lead ++ cond b (skip_leading_whitespace cs) (c ∷ cs))
    × (list_all is_whitespace lead ≡ true)) [
      | true ↦ λ white. (c ∷ rest.0, ap (λ l. c ∷ l) rest.1, ap (λ b. b && list_all is_whitespace rest.0) white ∙ rest.2)
      | false ↦ λ other. ([], refl, refl)
    ] refl

dropped : (cs : List ℕ) → (trail : List ℕ) × (cs ≡ drop_trailing_whitespace cs ++ trail) × (list_all is_whitespace trail ≡ true)
dropped [] = ([], refl, refl)
dropped (c ∷ cs) =
    let rest = dropped cs in
    elim (is_whitespace c && length (drop_trailing_whitespace cs) == 0)
    as
    (λ b.
    (is_whitespace c && length (drop_trailing_whitespace cs) == 0) ≡ b
    → (trail : List ℕ) × (c ∷ cs ≡ cond b [] (c ∷ drop_trailing_whitespace cs) ++ trail)
    × (list_all is_whitespace trail ≡ true)) [
      | true ↦ λ both.
          let parts = and_parts (is_whitespace c) (length (drop_trailing_whitespace cs) == 0) both in
          let none : drop_trailing_whitespace cs ≡ [] = nil_from_length _ (eqb-true _ 0 parts.1) in
          let all : cs ≡ rest.0 = rest.1 ∙ ap (λ l. l ++ rest.0) none in
          (c ∷ cs, refl, ap (λ b. b && list_all is_whitespace cs) parts.0 ∙ ap (list_all is_whitespace) all ∙ rest.2)
      | false ↦ λ other. (rest.0, ap (λ l. c ∷ l) rest.1, rest.2)
    ] refl

-- a text, by characters, is `left` between white space that was removed: at the start only if `first`, at the end only
-- if `last`
pub record IsTrimmed (first last : Bool) (text left : List ℕ) : Type 0 where
  pub lead : List ℕ
  pub trail : List ℕ
  pub is : text ≡ lead ++ (left ++ trail)
  pub white : list_all is_whitespace lead ≡ true
  pub blank : list_all is_whitespace trail ≡ true
  pub begins : first ≡ false → lead ≡ []
  pub ends : last ≡ false → trail ≡ []

-- both parts of appended valid characters are valid
pub scalars_parts : (xs ys : List ℕ) → scalars (xs ++ ys) ≡ true → (scalars xs ≡ true) × (scalars ys ≡ true)
scalars_parts [] ys valid = (refl, valid)
scalars_parts (x ∷ xs) ys valid =
    let both = and_parts (scalar x) (scalars (xs ++ ys)) valid in
    let rest = scalars_parts xs ys both.1 in
    (ap (λ b. b && scalars xs) both.0 ∙ rest.0, rest.1)

-- the characters that are left after trimming the start, or the end, if the flag is true
start_left : Bool → List ℕ → List ℕ
start_left true text = skip_leading_whitespace text
start_left false text = text

end_left : Bool → List ℕ → List ℕ
end_left true text = drop_trailing_whitespace text
end_left false text = text

-- trimming the start of encoded characters is encoding the characters with the start trimmed
start_bytes : (first : Bool) (text : List ℕ) → scalars text ≡ true
    → trimmed_start first (encode_utf8_all text) ≡ encode_utf8_all (start_left first text)
unfolding trim_start start_left
start_bytes true text valid = ap (λ cs. encode_utf8_all (skip_leading_whitespace cs)) (chars-encodes text valid)
start_bytes false text valid = refl

-- trimming the end of encoded characters is encoding the characters with the end trimmed
end_bytes : (last : Bool) (text : List ℕ) → scalars text ≡ true
    → trimmed_end last (encode_utf8_all text) ≡ encode_utf8_all (end_left last text)
unfolding trim_end end_left
end_bytes true text valid = ap (λ cs. encode_utf8_all (drop_trailing_whitespace cs)) (chars-encodes text valid)
end_bytes false text valid = refl

-- a text is white space and then the text that is left; the white space is empty unless `first` is true
start_parts : (first : Bool) (text : List ℕ)
    → (lead : List ℕ) × (text ≡ lead ++ start_left first text) × (list_all is_whitespace lead ≡ true)
    × (first ≡ false → lead ≡ [])
unfolding start_left
start_parts true text = let cut = skipped text in (cut.0, cut.1, cut.2, λ no. absurd (false≢true (sym no)))
start_parts false text = ([], refl, refl, λ _. refl)

-- a text is the text that is left and then white space; the white space is empty unless `last` is true
end_parts : (last : Bool) (text : List ℕ)
    → (trail : List ℕ) × (text ≡ end_left last text ++ trail) × (list_all is_whitespace trail ≡ true)
    × (last ≡ false → trail ≡ [])
unfolding end_left
end_parts true text = let cut = dropped text in (cut.0, cut.1, cut.2, λ no. absurd (false≢true (sym no)))
end_parts false text = ([], sym (append-nil text), refl, λ _. refl)

-- a part of a chunk is a normal chunk with the part's text
pub part_chunk : (whole : List ℕ) (span : Range ℕ) (at : ℕ) (text : List ℕ) → (chunk_part whole span at text).v ≡ Normal text
part_chunk whole span at text =
    elim (length text == length whole) as
    (λ b.
    (if b then with_span (Normal text) span.start span.end
    else with_span (Normal text) (further span.start at) (further (further span.start at) (length text))).v
    ≡ Normal text) [
      | true ↦ refl
      | false ↦ refl
    ]

-- the piece `here` is the part of the chunk that trimming leaves of `text`
pub record IsPiece (whole : List ℕ) (span : Range ℕ) (at : ℕ) (first last : Bool) (text : List ℕ) (here : Spanned Chunk) : Type 0 where
  pub left : List ℕ
  pub trimmed : IsTrimmed first last text left
  pub valid : scalars left ≡ true
  pub is : here ≡ chunk_part whole span (at + length (encode_utf8_all trimmed.lead)) (encode_utf8_all left)

-- a piece of encoded characters is the part of the chunk that trimming leaves of them
pub piece_is : (whole : List ℕ) (span : Range ℕ) (at : ℕ) (first last : Bool) (text : List ℕ) → scalars text ≡ true
    → IsPiece whole span at first last text (piece whole span at first last (encode_utf8_all text))
piece_is whole span at first last text valid =
    let start = start_parts first text in
    let begun = start_left first text in
    let begun_valid : scalars begun ≡ true = (scalars_parts start.0 begun (ap scalars (sym start.1) ∙ valid)).1 in
    let end = end_parts last begun in
    let left = end_left last begun in
    let left_valid : scalars left ≡ true = (scalars_parts left end.0 (ap scalars (sym end.1) ∙ begun_valid)).0 in
    let begun_bytes : trimmed_start first (encode_utf8_all text) ≡ encode_utf8_all begun = start_bytes first text valid in
    let bytes : trimmed_end last (trimmed_start first (encode_utf8_all text)) ≡ encode_utf8_all left =
    ap (trimmed_end last) begun_bytes ∙ end_bytes last begun begun_valid in
    let size : length (encode_utf8_all text) ≡ length (encode_utf8_all start.0) + length (encode_utf8_all begun) =
    ap (λ cs. length (encode_utf8_all cs)) start.1 ∙ ap length (encodes-append start.0 begun)
    ∙ length-append (encode_utf8_all start.0) (encode_utf8_all begun) in
    let skipped_bytes : length (encode_utf8_all text) - length (trimmed_start first (encode_utf8_all text))
    ≡ length (encode_utf8_all start.0) =
    omega (arith, size, ap length begun_bytes) in
    record {
      left = left;
      trimmed = record {
        lead = start.0;
        trail = end.0;
        is = start.1 ∙ ap (λ l. start.0 ++ l) end.1;
        white = start.2;
        blank = end.2;
        begins = start.3;
        ends = end.3;
      };
      valid = left_valid;
      is =
          ap (λ n. chunk_part whole span (at + n) (trimmed_end last (trimmed_start first (encode_utf8_all text))))
          skipped_bytes ∙ ap (chunk_part whole span (at + length (encode_utf8_all start.0))) bytes;
    }

-- the piece `here` is a normal chunk of the characters that trimming leaves of `text`
pub record SaysPiece (first last : Bool) (text : List ℕ) (here : Spanned Chunk) : Type 0 where
  pub left : List ℕ
  pub trimmed : IsTrimmed first last text left
  pub valid : scalars left ≡ true
  pub is : here.v ≡ Normal (encode_utf8_all left)
  pub says : atoms_of here.v ≡ map Atom.normal left

-- a piece of encoded characters is a normal chunk of the characters that trimming leaves of them
pub piece_says : (whole : List ℕ) (span : Range ℕ) (at : ℕ) (first last : Bool) (text : List ℕ) → scalars text ≡ true
    → SaysPiece first last text (piece whole span at first last (encode_utf8_all text))
piece_says whole span at first last text valid =
    let one = piece_is whole span at first last text valid in
    let chunk : (piece whole span at first last (encode_utf8_all text)).v ≡ Normal (encode_utf8_all one.left) =
    ap (λ c. c.v) one.is ∙ part_chunk whole span _ _ in
    record {
      left = one.left;
      trimmed = one.trimmed;
      valid = one.valid;
      is = chunk;
      says = ap atoms_of chunk ∙ ap (map Atom.normal) (chars-encodes one.left one.valid);
    }
