-- The parts of a list of whole chunks with a separator between them format to the texts of these chunks.
use Rattle.std.proofs.Common.{◌≡◌, ℕ, ◌-◌, ◌^◌, Bool, false, List, [], ◌∷◌, ◌++◌, map, ap, ◌∙◌, append-nil, refl}
use Rattle.std.specs.List.{flat_map, AllByRecursion}
use Rattle.std.specs.Str.{chars}
use Rattle.std.specs.declared.ops.Range.{Range}
use Rattle.std.proofs.lemmas.Str.{chars-nil}
use Rattle.bib_chunks.specs.declared.chunk.Chunk.{Chunk}
use Rattle.bib_chunks.specs.declared.chunk.Chunk.TheVariants.{Normal}
use Rattle.bib_chunks.specs.Formatted.{ends_in_space, flowing, space_after, formatted_chars, formatted_chunk, formatted_chars_after}
use Rattle.bib_chunks.specs.Cuts.{with_span, pieces, joined_parts, list_parts}
use Rattle.bib_chunks.specs.Values.{Value, nowhere, alone}
use Rattle.bib_chunks.specs.Separated.{after_separator, joined_by}

-- the detached span
abbrev pub no_place : Range ℕ
no_place = record { start = 2 ^ 64 - 1; end = 2 ^ 64 - 1 }

-- an empty chunk
abbrev blank : Range ℕ → Value
blank span = with_span (Normal []) span.start span.end ∷ []

-- a separator is cut into two empty chunks
pub record IsSeparator (width : ℕ) (between : List ℕ → List (List ℕ)) (separator : List ℕ) : Type 0 where
  pub before : Range ℕ
  pub after : Range ℕ
  pub cut : pieces width between (Normal separator) no_place
      ≡ with_span (Normal []) before.start before.end ∷ with_span (Normal []) after.start after.end ∷ []

-- a chunk is one piece, and is formatted to these characters
pub record IsWhole (width : ℕ) (between : List ℕ → List (List ℕ)) (chunk : Chunk) (characters : List ℕ) : Type 0 where
  pub one : pieces width between chunk no_place ≡ alone chunk
  pub says : formatted_chunk (λ cs. cs) false chunk ≡ characters

module _ (width : ℕ) (between : List ℕ → List (List ℕ)) (chunk : List ℕ → Chunk) where
  -- each of the chunks of these texts is such a chunk
  abbrev pub AreWhole : List (List ℕ) → Type 0
  AreWhole = AllByRecursion (λ t. IsWhole width between (chunk t) (chars t))

  -- if the chunk of a text is whole, it formats to the text, also if chunks that format to nothing follow it
  whole_formats : (t : List ℕ) (following : Value) → IsWhole width between (chunk t) (chars t)
      → ((space : Bool) → formatted_chars_after space following ≡ []) → formatted_chars (nowhere (chunk t) ∷ following) ≡ chars t
  whole_formats t following whole none =
      ap (λ xs. formatted_chunk (λ cs. cs) false (chunk t) ++ xs) (none (space_after false (chunk t)))
      ∙ append-nil (formatted_chunk (λ cs. cs) false (chunk t)) ∙ whole.says

  -- an empty chunk at the start changes nothing
  blank_prefix : (span : Range ℕ) (xs : Value) → formatted_chars (blank span ++ xs) ≡ formatted_chars xs
  blank_prefix span xs = ap (λ cs. flowing false cs ++ formatted_chars_after (ends_in_space false (flowing false cs)) xs) chars-nil

  module _ (separator : List ℕ) (is : IsSeparator width between separator) where
    -- the chunks of texts, each with a separator before it
    abbrev after_separators : List (List ℕ) → Value
    after_separators texts = flat_map (after_separator separator) (map (λ t. alone (chunk t)) texts)

    -- these chunks are cut into a first part that formats to nothing, and the others, which format to the texts
    record Cut (texts : List (List ℕ)) : Type 0 where
      pub first : Value
      pub others : List Value
      pub parts : list_parts width between (after_separators texts) ≡ first ∷ others
      pub none : (space : Bool) → formatted_chars_after space first ≡ []
      pub formats : map formatted_chars others ≡ map chars texts

    cut : (texts : List (List ℕ)) → AreWhole texts → Cut texts
    cut [] whole = record { first = []; others = []; parts = refl; none = λ space. refl; formats = refl }
    cut (t ∷ rest) whole =
        let more : Cut rest = cut rest whole.1 in
        record {
          first = blank is.before;
          others = (blank is.after ++ (alone (chunk t) ++ more.first)) ∷ more.others;
          parts =
              ap
              (λ ps.
              joined_parts ps
              (joined_parts (pieces width between (chunk t) no_place)
              (list_parts width between (after_separators rest)))) is.cut
              ∙ ap
              (λ ps.
              joined_parts (blank is.before ++ blank is.after)
              (joined_parts ps (list_parts width between (after_separators rest)))) whole.0.one
              ∙ ap (λ ps. joined_parts (blank is.before ++ blank is.after) (joined_parts (alone (chunk t)) ps)) more.parts;
          none = λ space. ap (λ cs. flowing space cs ++ []) chars-nil;
          formats =
              ap (λ x. x ∷ map formatted_chars more.others)
              (blank_prefix is.after (alone (chunk t) ++ more.first) ∙ whole_formats t more.first whole.0 more.none)
              ∙ ap (λ xs. chars t ∷ xs) more.formats;
        }

    -- if the chunks of texts are whole, the parts of the list of these chunks format to the texts
    pub separated_formats : (t : List ℕ) (rest : List (List ℕ)) → AreWhole (t ∷ rest)
        → map formatted_chars (list_parts width between (joined_by separator (map (λ u. alone (chunk u)) (t ∷ rest))))
        ≡ map chars (t ∷ rest)
    separated_formats t rest whole =
        let more : Cut rest = cut rest whole.1 in
        ap (λ ps. map formatted_chars (joined_parts ps (list_parts width between (after_separators rest)))) whole.0.one
        ∙ ap (λ ps. map formatted_chars (joined_parts (alone (chunk t)) ps)) more.parts
        ∙ ap (λ x. x ∷ map formatted_chars more.others) (whole_formats t more.first whole.0 more.none)
        ∙ ap (λ xs. chars t ∷ xs) more.formats
