-- Facts about the cuts of names with commas.
use Rattle.std.proofs.Common.{◌≡◌, ℕ, ◌+◌, Bool, true, false, List, [], ◌∷◌, ◌++◌, length, refl, ap, ◌∙◌, Some, None}
use Rattle.std.specs.Prelude.{◌==◌, encode_utf8_all, option_map}
use Rattle.std.specs.Char.{len_utf8}
use Rattle.std.specs.List.{list_any}
use Rattle.std.specs.Str.{chars, trim_start, trim_end}
use Rattle.std.specs.declared.ops.Range.{Range}
use Rattle.std.proofs.lemmas.Bool.{or_parts}
use Rattle.std.proofs.lemmas.Str.{chars-nil}
use Rattle.bib_chunks.specs.declared.chunk.Chunk.{Chunk}
use Rattle.bib_chunks.specs.declared.chunk.Chunk.TheVariants.{Normal}
use Rattle.bib_text.specs.declared.spanned.Spanned.{Spanned}
use Rattle.bib_chunks.specs.Cuts.{with_span, piece, halves, both_pieces, cut_characters, cut_first, cut_after, cut_at}
use Rattle.bib_chunks.proofs.TrimFacts.{part_chunk}
use Rattle.bib_people.proofs.AndLists.{empties}

-- a comma
abbrev pub is_comma : ℕ → Bool
is_comma b = b == 44

-- a normal chunk with this span
abbrev pub stands : Range ℕ → List ℕ → Spanned Chunk
stands span text = with_span (Normal text) span.start span.end

-- a text is cut at its first comma
cut_prefix : (leading_run rest : List ℕ) → list_any is_comma leading_run ≡ false
    → cut_characters 44 (leading_run ++ (44 ∷ rest)) ≡ Some (leading_run, rest)
cut_prefix [] rest none = refl
cut_prefix (b ∷ bs) rest none =
    let both = or_parts (is_comma b) (list_any is_comma bs) none in
    let here = both.0 in
    rw here (ap (option_map (λ cut. (b ∷ cut.0, cut.1))) (cut_prefix bs rest both.1))

-- a text without a comma isn't cut
cut_none : (text : List ℕ) → list_any is_comma text ≡ false → cut_characters 44 text ≡ None
cut_none [] none = refl
cut_none (b ∷ bs) none =
    let both = or_parts (is_comma b) (list_any is_comma bs) none in
    let here = both.0 in
    rw here (ap (option_map (λ cut. (b ∷ cut.0, cut.1))) (cut_none bs both.1))

piece_is : (whole : List ℕ) (span : Range ℕ) (at : ℕ) (first last : Bool) (text left : List ℕ)
    → (piece whole span at first last text).v ≡ Normal left
    → piece whole span at first last text ≡ stands (piece whole span at first last text).span left
piece_is whole span at first last text left is =
    ap (λ v. with_span v (piece whole span at first last text).span.start (piece whole span at first last text).span.end)
    is

-- the halves of a chunk, with any spans
pub record AreHalves (leading_run rest : List ℕ) (span : Range ℕ) : Type 0 where
  pub left : Range ℕ
  pub right : Range ℕ
  pub cut : halves (Normal (leading_run ++ (44 ∷ rest))) span 44 ≡ Some (stands left (trim_end leading_run), stands right (trim_start rest))

-- the halves of a normal chunk of ASCII text at its first comma
pub halves_at : (leading_run rest : List ℕ) (span : Range ℕ) → list_any is_comma leading_run ≡ false
    → chars (leading_run ++ (44 ∷ rest)) ≡ leading_run ++ (44 ∷ rest) → encode_utf8_all leading_run ≡ leading_run
    → encode_utf8_all rest ≡ rest → AreHalves leading_run rest span
halves_at leading_run rest span none same spelt spells =
    let whole = leading_run ++ (44 ∷ rest) in
    let at = length (encode_utf8_all leading_run) + len_utf8 44 in
    let one = piece whole span 0 false true (encode_utf8_all leading_run) in
    let two = piece whole span at true false (encode_utf8_all rest) in
    let one_is : one ≡ stands one.span (trim_end leading_run) =
    piece_is whole span 0 false true (encode_utf8_all leading_run) (trim_end leading_run)
    (part_chunk whole span _ _ ∙ ap (λ t. Normal (trim_end t)) spelt) in
    let two_is : two ≡ stands two.span (trim_start rest) =
    piece_is whole span at true false (encode_utf8_all rest) (trim_start rest)
    (part_chunk whole span _ _ ∙ ap (λ t. Normal (trim_start t)) spells) in
    record {
      left = one.span;
      right = two.span;
      cut =
          ap (λ cs. option_map (both_pieces (len_utf8 44) whole span) (cut_characters 44 cs)) same
          ∙ ap (option_map (both_pieces (len_utf8 44) whole span)) (cut_prefix leading_run rest none)
          ∙ ap (λ c. Some (c, two)) one_is
          ∙ ap (λ c. Some (stands one.span (trim_end leading_run), c)) two_is;
    }

-- a normal chunk of ASCII text without a comma has no halves
halves_none : (text : List ℕ) (span : Range ℕ) → list_any is_comma text ≡ false → chars text ≡ text → halves (Normal text) span 44 ≡ None
halves_none text span none same =
    ap (λ cs. option_map (both_pieces (len_utf8 44) text span) (cut_characters 44 cs)) same
    ∙ ap (option_map (both_pieces (len_utf8 44) text span)) (cut_none text none)

-- empty chunks contain no comma
empties_none : (span : Range ℕ) (following : Bool) → cut_at (empties span following) 44 ≡ None
unfolding chars
empties_none span true = refl
empties_none span false = refl

-- the cut of a chunk at its first comma, with or without an empty chunk before it
pub cut_first_comma : (at : Range ℕ) (before : Bool) (leading_run rest : List ℕ) (span : Range ℕ)
    (more : List (Spanned Chunk)) (cut : AreHalves leading_run rest span)
    → cut_at (empties at before ++ (stands span (leading_run ++ (44 ∷ rest)) ∷ more)) 44
    ≡ Some (empties at before ++ (stands cut.left (trim_end leading_run) ∷ []), stands cut.right (trim_start rest) ∷ more)
cut_first_comma at false leading_run rest span more cut =
    ap (λ h. cut_first (stands span (leading_run ++ (44 ∷ rest))) more h (cut_at more 44)) cut.cut
cut_first_comma at true leading_run rest span more cut =
    ap
    (λ h.
    cut_first (stands at []) (stands span (leading_run ++ (44 ∷ rest)) ∷ more) h
    (cut_at (stands span (leading_run ++ (44 ∷ rest)) ∷ more) 44)) (halves_none [] at refl chars-nil)
    ∙ ap (cut_after (stands at [] ∷ [])) (ap (λ h. cut_first (stands span (leading_run ++ (44 ∷ rest))) more h (cut_at more 44)) cut.cut)

-- a normal chunk of ASCII text without commas is not cut, with or without an empty chunk after it
pub cut_no_comma : (text : List ℕ) (span at : Range ℕ) (following : Bool) → list_any is_comma text ≡ false
    → chars text ≡ text → cut_at (stands span text ∷ empties at following) 44 ≡ None
cut_no_comma text span at following none same =
    ap (λ h. cut_first (stands span text) (empties at following) h (cut_at (empties at following) 44)) (halves_none text span none same)
    ∙ ap (cut_after (stands span text ∷ [])) (empties_none at following)
