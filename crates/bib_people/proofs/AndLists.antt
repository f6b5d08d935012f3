-- Chunks that are written as an `and` list are parsed as its parts, with empty chunks around them.
use Rattle.std.proofs.Common.{◌≡◌, ℕ, Bool, true, false, List, [], ◌∷◌, ◌++◌, refl, sym, ap, ◌∙◌}
use Rattle.std.proofs.lemmas.Bool.{eq-eqb}
use Rattle.std.specs.Prelude.{codes, encode_utf8_all, length}
use Rattle.std.specs.Str.{chars, trim_start, trim_end}
use Rattle.std.specs.declared.ops.Range.{Range}
use Rattle.bib_chunks.specs.declared.chunk.Chunk.{Chunk}
use Rattle.bib_chunks.specs.declared.chunk.Chunk.TheVariants.{Normal}
use Rattle.bib_text.specs.declared.spanned.Spanned.{Spanned}
use Rattle.bib_chunks.specs.Cuts.{with_span, piece, chunk_part, pieces, pieces_between, onto, joined_parts, list_parts, between_ands, trimmed_chunk, trimmed_chunks, trimmed_ends, and_list}
use Rattle.bib_chunks.specs.Formatted.{formatted_chars_after}
use Rattle.bib_chunks.specs.Values.{Value, nowhere, alone}
use Rattle.bib_chunks.proofs.SeparatedFacts.{no_place}
use Rattle.bib_chunks.proofs.AndListFacts.{and_separates}

-- a normal chunk with a detached span
abbrev pub normal : List ℕ → Spanned Chunk
normal text = nowhere (Normal text)

-- a chunk with a detached span is one piece of an `and` list, and trimming leaves it unchanged
pub record IsPart (chunk : Chunk) : Type 0 where
  pub one : pieces 3 (between_ands false) chunk no_place ≡ alone chunk
  pub ends : (first last : Bool) → trimmed_chunk first last chunk no_place ≡ nowhere chunk

-- each of these chunks is one part
abbrev pub AllParts : List Chunk → Type 0
AllParts [] = Unit {0}
AllParts (chunk ∷ chunks) = IsPart chunk × AllParts chunks

-- a piece that is the whole text keeps the detached span
whole_part : (text left : List ℕ) (at : ℕ) → left ≡ text → chunk_part text no_place at left ≡ normal text
whole_part text left at same = ap (chunk_part text no_place at) same ∙ (rw (eq-eqb (length text) (length text) refl) refl)

-- a piece that is the whole text is the chunk
untouched : (text : List ℕ) → piece text no_place 0 false false text ≡ normal text
untouched text = whole_part text _ _ refl

-- a whole text without white space at its ends stays the chunk when it is trimmed
whole_piece : (text : List ℕ) (first last : Bool) → trim_start text ≡ text → trim_end text ≡ text
    → piece text no_place 0 first last text ≡ normal text
whole_piece text true true start end = whole_part text _ _ (ap trim_end start ∙ end)
whole_piece text true false start end = whole_part text _ _ start
whole_piece text false true start end = whole_part text _ _ end
whole_piece text false false start end = untouched text

-- a normal chunk of valid text is one part if trimming doesn't change it and it contains no word `and`
pub normal_part : (text : List ℕ) → between_ands false (chars text) ≡ chars text ∷ []
    → encode_utf8_all (chars text) ≡ text → trim_start text ≡ text → trim_end text ≡ text → IsPart (Normal text)
normal_part text one spelt start end = record {
  one =
      ap (pieces_between 3 text no_place 0 false) one ∙ ap (λ t. piece text no_place 0 false false t ∷ []) spelt
      ∙ ap (λ c. c ∷ []) (whole_piece text false false start end);
  ends = λ first last. whole_piece text first last start end;
}

-- the chunks after the first one of a written list
abbrev pub written_after : List Chunk → Value
written_after [] = []
written_after (chunk ∷ chunks) = normal (codes " and ") ∷ nowhere chunk ∷ written_after chunks

-- an empty chunk with this span, or none
abbrev pub empties : Range ℕ → Bool → Value
empties span false = []
empties span true = with_span (Normal []) span.start span.end ∷ []

-- the span of the empty chunk before a separator
abbrev pub before_and : Range ℕ
before_and = and_separates.before

-- the span of the empty chunk after a separator
abbrev pub after_and : Range ℕ
after_and = and_separates.after

-- a part as it is parsed
abbrev pub padded : Bool → Bool → Chunk → Value
padded before following chunk = empties after_and before ++ (nowhere chunk ∷ empties before_and following)

-- the parts of a list as they are parsed; the flag says whether a separator comes before them
abbrev pub padded_parts : Bool → Chunk → List Chunk → List Value
padded_parts before chunk [] = padded before false chunk ∷ []
padded_parts before chunk (next ∷ more) = padded before true chunk ∷ padded_parts true next more

-- ---- the ends of the list

-- if each chunk is one part, trimming leaves the chunks after the first one unchanged
trimmed_after : (chunk : Chunk) (chunks : List Chunk) → IsPart chunk → AllParts chunks
    → trimmed_chunks false (written_after (chunk ∷ chunks)) ≡ written_after (chunk ∷ chunks)
trimmed_after chunk [] part all =
    ap (λ c. trimmed_chunk false false (Normal (codes " and ")) no_place ∷ c ∷ []) (part.ends false true)
    ∙ ap (λ c. c ∷ nowhere chunk ∷ []) (untouched (codes " and "))
trimmed_after chunk (next ∷ more) part all =
    ap
    (λ c.
    trimmed_chunk false false (Normal (codes " and ")) no_place ∷ c ∷ trimmed_chunks false (written_after (next ∷ more)))
    (part.ends false false)
    ∙ ap (λ l. trimmed_chunk false false (Normal (codes " and ")) no_place ∷ nowhere chunk ∷ l) (trimmed_after next more all.0 all.1)
    ∙ ap (λ c. c ∷ nowhere chunk ∷ written_after (next ∷ more)) (untouched (codes " and "))

-- if each chunk is one part, trimming leaves the written list unchanged
trimmed_whole : (chunk : Chunk) (chunks : List Chunk) → IsPart chunk → AllParts chunks
    → trimmed_ends (nowhere chunk ∷ written_after chunks) ≡ nowhere chunk ∷ written_after chunks
trimmed_whole chunk [] part all = ap (λ c. c ∷ []) (part.ends true true)
trimmed_whole chunk (next ∷ more) part all =
    ap (λ c. c ∷ trimmed_chunks false (written_after (next ∷ more))) (part.ends true false)
    ∙ ap (λ l. nowhere chunk ∷ l) (trimmed_after next more all.0 all.1)

-- ---- the parts of the list

abbrev parts : Value → List Value
parts = list_parts 3 (between_ands false)

cut_after : (next : Chunk) (more : List Chunk) → IsPart next
    → parts (written_after (next ∷ more))
    ≡ empties before_and true ∷ onto (empties after_and true) (onto (alone next) (parts (written_after more)))
cut_after next more part =
    ap (λ ps. joined_parts ps (joined_parts (pieces 3 (between_ands false) next no_place) (parts (written_after more)))) and_separates.cut
    ∙ ap (λ ps. joined_parts (empties before_and true ++ empties after_and true) (joined_parts ps (parts (written_after more)))) part.one

onto_one : (before : Bool) (chunk : Chunk) (chunks : List Chunk) → AllParts chunks
    → onto (empties after_and before) (onto (alone chunk) (parts (written_after chunks)))
    ≡ padded_parts before chunk chunks
onto_one false chunk [] all = refl
onto_one true chunk [] all = refl
onto_one false chunk (next ∷ more) all =
    ap (λ ps. onto [] (onto (alone chunk) ps)) (cut_after next more all.0)
    ∙ ap (λ ps. padded false true chunk ∷ ps) (onto_one true next more all.1)
onto_one true chunk (next ∷ more) all =
    ap (λ ps. onto (empties after_and true) (onto (alone chunk) ps)) (cut_after next more all.0)
    ∙ ap (λ ps. padded true true chunk ∷ ps) (onto_one true next more all.1)

onto_nothing : (chunk : Chunk) (ps : List Value) → onto [] (onto (alone chunk) ps) ≡ onto (alone chunk) ps
onto_nothing chunk [] = refl
onto_nothing chunk (p ∷ ps) = refl

-- if each chunk is one part, the written list is parsed as these parts, with empty chunks around them
pub and_list_written : (chunk : Chunk) (chunks : List Chunk) → IsPart chunk → AllParts chunks
    → and_list (nowhere chunk ∷ written_after chunks) ≡ padded_parts false chunk chunks
and_list_written chunk chunks part all =
    ap parts (trimmed_whole chunk chunks part all)
    ∙ ap (λ ps. joined_parts ps (parts (written_after chunks))) part.one
    ∙ sym (onto_nothing chunk (parts (written_after chunks)))
    ∙ onto_one false chunk chunks all

-- empty chunks format to nothing
pub formatted_empties : (span : Range ℕ) (space following : Bool) → formatted_chars_after space (empties span following) ≡ []
unfolding chars
formatted_empties span space true = refl
formatted_empties span space false = refl
