-- Facts about the byte offsets of the pieces of a list.
use Rattle.std.proofs.Common.{◌≡◌, ℕ, suc, ◌+◌, Bool, true, false, List, [], ◌∷◌, ◌++◌, length, refl, sym, ap, subst, ◌∙◌, append-nil, append_assoc, length-append, arith}
use Rattle.std.specs.Prelude.{◌==◌, encode_utf8_all, if◌then◌else◌}
use Rattle.std.specs.List.{AllByRecursion, Contains}
use lib.Utf8.{encode}
use Rattle.std.specs.Str.{IsUtf8, chars}
use Rattle.std.specs.declared.ops.Range.{Range}
use Rattle.std.proofs.Math.Utf8.{scalars}
use Rattle.std.proofs.lemmas.Bool.{eqb-true}
use Rattle.std.proofs.lemmas.Str.{scalars-chars, encodes-chars, encodes-append}
use Rattle.bib_chunks.specs.declared.chunk.Chunk.{Chunk}
use Rattle.bib_chunks.specs.declared.chunk.Chunk.TheVariants.{Normal, Verbatim, Math}
use Rattle.bib_text.specs.declared.spanned.Spanned.{Spanned}
use Rattle.bib_text.proofs.ListFacts.{all_weaker}
use Rattle.bib_chunks.specs.Styled.{text_of}
use Rattle.bib_chunks.specs.Cuts.{further, with_span, chunk_part, piece, pieces, pieces_between, list_parts, between_commas, comma_list, between_ands, trimmed_chunk, trimmed_chunks, trimmed_ends, and_list}
use Rattle.bib_chunks.specs.Parted.{AreTexts, IsAsLong, StandsInChunk, StandsInOne}
use Rattle.bib_chunks.proofs.TrimFacts.{IsPiece, piece_is, scalars_parts}
use Rattle.bib_chunks.proofs.PartFacts.{list_hold}
use Rattle.bib_chunks.proofs.WholeFacts.{rejoined, commas_whole}
use Rattle.bib_chunks.proofs.WordFacts.{letters, ands_whole, trimmed_texts}

-- a chunk as long as its span is in itself
stands_whole : (c : Spanned Chunk) → IsAsLong c → StandsInChunk c c
stands_whole c long = record { before = []; following = []; is = sym (append-nil (text_of c.v)); start = omega arith; end = long.0 }

-- a piece of a piece of a chunk is a piece of the chunk
stands_twice : (c d here : Spanned Chunk) → StandsInChunk c d → StandsInChunk d here → StandsInChunk c here
stands_twice c d here outer inner = record {
  before = outer.before ++ inner.before;
  following = inner.following ++ outer.following;
  is =
      outer.is ∙ ap (λ l. outer.before ++ (l ++ outer.following)) inner.is
      ∙ ap (λ l. outer.before ++ l)
      (append_assoc inner.before (text_of here.v ++ inner.following) outer.following
      ∙ ap (λ l. inner.before ++ l) (append_assoc (text_of here.v) inner.following outer.following))
      ∙ sym (append_assoc outer.before inner.before _);
  start = omega (arith, outer.start, inner.start, length-append outer.before inner.before);
  end = inner.end;
}

-- if the span of a chunk is as long as its text, so is that of each chunk in it
stands_long : (c here : Spanned Chunk) → IsAsLong c → StandsInChunk c here → IsAsLong here
stands_long c here long stands =
    let size : length (text_of c.v) ≡ length stands.before + (length (text_of here.v) + length stands.following) =
    ap length stands.is ∙ length-append stands.before (text_of here.v ++ stands.following)
    ∙ ap (λ n. length stands.before + n) (length-append (text_of here.v) stands.following) in
    (stands.end, omega (arith, size, stands.start, stands.end, long.0, long.1))

module _ (whole : List ℕ) (span : Range ℕ) (long : IsAsLong (record { v = Normal whole; span = span })) where
  part_stands : (before part after : List ℕ) (at : ℕ) → whole ≡ before ++ (part ++ after) → at ≡ length before
      → StandsInChunk (record { v = Normal whole; span = span }) (chunk_part whole span at part)
  part_stands before part after at is at_is =
      let size : length whole ≡ length before + (length part + length after) =
      ap length is ∙ length-append before (part ++ after) ∙ ap (λ n. length before + n) (length-append part after) in
      elim (length part == length whole)
      as
      (λ b.
      (length part == length whole) ≡ b
      → StandsInChunk (record { v = Normal whole; span = span })
      (if b then with_span (Normal part) span.start span.end
      else with_span (Normal part) (further span.start at)
      (further (further span.start at) (length part)))) [
        | true ↦ λ same.
            let equal : length part ≡ length whole = eqb-true (length part) (length whole) same in
            record { before = before; following = after; is = is; start = omega (arith, equal, size); end = omega (arith, equal, long.0) }
        | false ↦
            λ other.
            record {
              before = before;
              following = after;
              is = is;
              start = omega (arith, size, at_is, long.0, long.1);
              end = omega (arith, size, at_is, long.0, long.1);
            }
      ] refl

  piece_stands : (before after text : List ℕ) (at : ℕ) (first last : Bool) → scalars text ≡ true
      → whole ≡ before ++ (encode_utf8_all text ++ after) → at ≡ length before
      → StandsInChunk (record { v = Normal whole; span = span }) (piece whole span at first last (encode_utf8_all text))
  piece_stands before after text at first last valid is at_is =
      let one : IsPiece whole span at first last text (piece whole span at first last (encode_utf8_all text)) =
      piece_is whole span at first last text valid in
      let lead = encode_utf8_all one.trimmed.lead in
      let left = encode_utf8_all one.left in
      let trail = encode_utf8_all one.trimmed.trail in
      let bytes : encode_utf8_all text ≡ lead ++ (left ++ trail) =
      ap encode_utf8_all one.trimmed.is ∙ encodes-append one.trimmed.lead (one.left ++ one.trimmed.trail)
      ∙ ap (λ l. lead ++ l) (encodes-append one.left one.trimmed.trail) in
      let parted : whole ≡ (before ++ lead) ++ (left ++ (trail ++ after)) =
      is ∙ ap (λ l. before ++ (l ++ after)) bytes
      ∙ ap (λ l. before ++ l)
      (append_assoc lead (left ++ trail) after ∙ ap (λ l. lead ++ l) (append_assoc left trail after))
      ∙ sym (append_assoc before lead _) in
      subst (StandsInChunk (record { v = Normal whole; span = span })) (sym one.is)
      (part_stands (before ++ lead) left (trail ++ after) _ parted (omega (arith, at_is, length-append before lead)))

  between_stand : (separator : List ℕ) (w : ℕ) → w ≡ length (encode_utf8_all separator)
      → (before : List ℕ) (at : ℕ) (following : Bool) (texts : List (List ℕ))
      → scalars (rejoined separator texts) ≡ true
      → whole ≡ before ++ encode_utf8_all (rejoined separator texts) → at ≡ length before
      → AllByRecursion (StandsInChunk (record { v = Normal whole; span = span }))
      (pieces_between w whole span at following texts)
  between_stand separator w width before at following [] valid is at_is = tt
  between_stand separator w width before at following (text ∷ []) valid is at_is =
      (piece_stands before [] text at following false valid (is ∙ ap (λ l. before ++ l) (sym (append-nil _))) at_is, tt)
  between_stand separator w width before at following (text ∷ after ∷ more) valid is at_is =
      let rest = rejoined separator (after ∷ more) in
      let valid_parts = scalars_parts text (separator ++ rest) valid in
      let valid_rest = scalars_parts separator rest valid_parts.1 in
      let here = encode_utf8_all text in
      let word = encode_utf8_all separator in
      let parted : whole ≡ before ++ (here ++ (word ++ encode_utf8_all rest)) =
      is
      ∙ ap (λ l. before ++ l)
      (encodes-append text (separator ++ rest) ∙ ap (λ l. here ++ l) (encodes-append separator rest)) in (
        piece_stands before (word ++ encode_utf8_all rest) text at following true valid_parts.0 parted at_is,
        between_stand separator w width (before ++ (here ++ word)) (at + (length here + w)) true (after ∷ more) valid_rest.1
            (parted ∙ ap (λ l. before ++ l) (sym (append_assoc here word (encode_utf8_all rest)))
            ∙ sym (append_assoc before (here ++ word) (encode_utf8_all rest)))
            (omega (arith, at_is, width, length-append before (here ++ word), length-append here word)),
      )

module _ (separator : List ℕ) (w : ℕ) (width : w ≡ length (encode_utf8_all separator)) (cut : List ℕ → List (List ℕ))
    (whole_again : (cs : List ℕ) → rejoined separator (cut cs) ≡ cs) where
  pieces_stand : (v : Chunk) (span : Range ℕ) → IsUtf8 (text_of v) → IsAsLong (record { v = v; span = span })
      → AllByRecursion (StandsInChunk (record { v = v; span = span })) (pieces w cut v span)
  pieces_stand (Normal text) span utf8 long =
      between_stand text span long separator w width [] 0 false (cut (chars text))
      (ap scalars (whole_again (chars text)) ∙ scalars-chars text utf8)
      (sym (ap encode_utf8_all (whole_again (chars text)) ∙ encodes-chars text utf8)) refl
  pieces_stand (Verbatim text) span utf8 long = (stands_whole (record { v = Verbatim text; span = span }) long, tt)
  pieces_stand (Math text) span utf8 long = (stands_whole (record { v = Math text; span = span }) long, tt)

  -- if chunks, as long as their spans, are in others, so are their pieces
  pieces_in : (all chunks : List (Spanned Chunk)) → AreTexts chunks → AllByRecursion IsAsLong chunks
      → AllByRecursion (StandsInOne all) chunks
      → AllByRecursion (λ c. AllByRecursion (StandsInOne all) (pieces w cut c.v c.span)) chunks
  pieces_in all [] texts long stand = tt
  pieces_in all (c ∷ rest) texts long stand = (
    all_weaker (StandsInChunk c) (StandsInOne all)
        (λ here inner. (stand.0.0, stand.0.1, stands_twice stand.0.0 c here stand.0.2 inner)) (pieces w cut c.v c.span)
        (pieces_stand c.v c.span texts.0 long.0),
    pieces_in all rest texts.1 long.1 stand.1,
  )

  -- each chunk of each part is in one of `all`, if each of `chunks` is and is as long as its span
  pub list_stands : (all chunks : List (Spanned Chunk)) → AreTexts chunks → AllByRecursion IsAsLong chunks
      → AllByRecursion (StandsInOne all) chunks
      → AllByRecursion (AllByRecursion (StandsInOne all)) (list_parts w cut chunks)
  list_stands all chunks texts long stand = list_hold (StandsInOne all) w cut chunks (pieces_in all chunks texts long stand)

-- a chunk of the rest of a list is in the list
later : (c : Spanned Chunk) (rest : List (Spanned Chunk)) (x : Spanned Chunk) → Contains rest x → Contains (c ∷ rest) x
later c rest x (k, within, is) = (suc k, omega (arith, within), is)

contains_all : (chunks : List (Spanned Chunk)) → AllByRecursion (Contains chunks) chunks
contains_all [] = tt
contains_all (c ∷ rest) = ((0, omega arith, refl), all_weaker (Contains rest) (Contains (c ∷ rest)) (later c rest) rest (contains_all rest))

-- chunks of a list that are as long as their spans are each in one chunk of the list
stand_all : (all chunks : List (Spanned Chunk)) → AllByRecursion IsAsLong chunks → AllByRecursion (Contains all) chunks
    → AllByRecursion (StandsInOne all) chunks
stand_all all [] long inside = tt
stand_all all (c ∷ rest) long inside = ((c, inside.0, stands_whole c long.0), stand_all all rest long.1 inside.1)

-- the lengths of the separators in bytes
comma_width : 1 ≡ length (encode_utf8_all (44 ∷ []))
unfolding encode
comma_width = refl

and_width : 3 ≡ length (encode_utf8_all letters)
unfolding encode
and_width = refl

-- if the chunks of a comma list are as long as their spans, each chunk of each part is in one of them
pub comma_list_stands : (chunks : List (Spanned Chunk)) → AreTexts chunks → AllByRecursion IsAsLong chunks
    → AllByRecursion (AllByRecursion (StandsInOne chunks)) (comma_list chunks)
comma_list_stands chunks texts long =
    list_stands (44 ∷ []) 1 comma_width between_commas commas_whole chunks chunks texts long
    (stand_all chunks chunks long (contains_all chunks))

-- a trimmed chunk is in its chunk if that meets `IsAsLong` and its text is UTF-8
trimmed_stands : (first last : Bool) (v : Chunk) (span : Range ℕ) → IsUtf8 (text_of v)
    → IsAsLong (record { v = v; span = span })
    → StandsInChunk (record { v = v; span = span }) (trimmed_chunk first last v span)
trimmed_stands first last (Normal text) span utf8 long =
    subst (λ bs. StandsInChunk (record { v = Normal text; span = span }) (piece text span 0 first last bs)) (encodes-chars text utf8)
    (piece_stands text span long [] [] (chars text) 0 first last (scalars-chars text utf8)
    (sym (append-nil _ ∙ encodes-chars text utf8)) refl)
trimmed_stands first last (Verbatim text) span utf8 long = stands_whole (record { v = Verbatim text; span = span }) long
trimmed_stands first last (Math text) span utf8 long = stands_whole (record { v = Math text; span = span }) long

-- a chunk is in one of `all`, and is as long as its span
abbrev StandsLong : List (Spanned Chunk) → Spanned Chunk → Type 0
StandsLong all c = StandsInOne all c × IsAsLong c

one_trimmed : (all : List (Spanned Chunk)) (first last : Bool) (c : Spanned Chunk) → IsUtf8 (text_of c.v) → IsAsLong c
    → Contains all c → StandsLong all (trimmed_chunk first last c.v c.span)
one_trimmed all first last c utf8 long inside =
    let stands = trimmed_stands first last c.v c.span utf8 long in
    ((c, inside, stands), stands_long c (trimmed_chunk first last c.v c.span) long stands)

-- trimmed chunks are in the untrimmed ones, and as long as their spans, if the untrimmed ones are
all_trimmed : (all : List (Spanned Chunk)) (first : Bool) (chunks : List (Spanned Chunk)) → AreTexts chunks
    → AllByRecursion IsAsLong chunks → AllByRecursion (Contains all) chunks
    → AllByRecursion (StandsLong all) (trimmed_chunks first chunks)
all_trimmed all first [] texts long inside = tt
all_trimmed all first (c ∷ []) texts long inside = (one_trimmed all first true c texts.0 long.0 inside.0, tt)
all_trimmed all first (c ∷ after ∷ more) texts long inside =
    (one_trimmed all first false c texts.0 long.0 inside.0, all_trimmed all false (after ∷ more) texts.1 long.1 inside.1)

-- if the chunks of an `and` list are as long as their spans, each chunk of each part is in one of them
pub and_list_stands : (chunks : List (Spanned Chunk)) → AreTexts chunks → AllByRecursion IsAsLong chunks
    → AllByRecursion (AllByRecursion (StandsInOne chunks)) (and_list chunks)
and_list_stands chunks texts long =
    let all = all_trimmed chunks true chunks texts long (contains_all chunks) in
    list_stands letters 3 and_width (between_ands false) (ands_whole false) chunks (trimmed_ends chunks) (trimmed_texts true chunks texts)
    (all_weaker (StandsLong chunks) IsAsLong (λ c both. both.1) (trimmed_ends chunks) all)
    (all_weaker (StandsLong chunks) (StandsInOne chunks) (λ c both. both.0) (trimmed_ends chunks) all)
